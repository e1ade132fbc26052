-- An edit that is done again does what it did, and is taken back by the same edit.
use Rattle.std.proofs.Common.{◌≡◌, Bool, true, false, cond, not, [], ◌∷◌, refl, sym, ap, subst, ◌∙◌}
use Rattle.std.specs.Option.{option_eq}
use Rattle.std.specs.FinMap.{get, entries, retain_keys, same_map}
use Rattle.iocm_types.specs.declared.key.Key.{Key}
use Rattle.iocm_types.specs.declared.sub_id.SubId.{SubId}
use Rattle.iocm_types.specs.KeyOrder.{sub_ids_total, sub_ids_exact}
use Rattle.iocm_model.specs.Change.Maps.{with_cells, cells_at}
use Rattle.iocm_model.specs.Operation.State.{State, IsSound, HasConfigAndNumbersOf, is_among, seen_in}
use Rattle.iocm_model.specs.Change.Edit.{Edit, action_key, record_after, config_after, same_view, state_after}
use Rattle.iocm_model.specs.Change.Edit.{altered_by, is_altered}
use Rattle.iocm_model.specs.Change.Inverse.{action_back, freed_numbers, inverse_of}
use Rattle.iocm_model.specs.Change.Refusal.{is_number_taken}
use Rattle.iocm_model.proofs.Maps.Cells.{get_with_cells_as}
use Rattle.iocm_model.proofs.Machine.OwnKeys.{keyed_own}
use Rattle.iocm_model.proofs.Change.SameViews.{sight_turned}
use Rattle.iocm_model.proofs.Change.EditsGoBack.{among_altered, back_key, back_record, keeps_the_others}
use Rattle.iocm_model.proofs.Change.RunsGoBack.{key_there, one_back, puts_back, run_goes_back, sound_after}
use Rattle.iocm_stage.specs.Again.{again}
use Rattle.iocm_stage.proofs.Like.{like_after, altered_like, live_like, inverse_like}

module _ (e : Edit) (s : State) (sound : IsSound s)
    (free : is_number_taken (config_after e.action s.config) s.numbers e.places ≡ false) where
  abbrev t : State
  t = state_after e s

  abbrev i : Edit
  i = inverse_of e s

  sound_then : IsSound t
  sound_then = sound_after e s sound free

  -- it is taken back
  undone : state_after i t ≡ s
  undone = run_goes_back (e ∷ []) s t sound (free, tt)
      (record { config = refl; numbers = refl; lived = sound_then.lived }) ∙ puts_back (e ∷ []) s sound

  -- the edit that takes it back alters the same
  same_altered : (x : SubId) → is_among x (altered_by i t) ≡ is_among x (altered_by e s)
  same_altered x = among_altered t (state_after i t) x
      ∙ ap (λ (z : State). not (option_eq same_view (seen_in t x) (seen_in z x))) undone
      ∙ ap not (sight_turned (seen_in t x) (seen_in s x)) ∙ sym (among_altered s t x)

  abbrev k : Key
  k = action_key e.action

  key_back : action_key i.action ≡ k
  key_back = back_key k (get s.config k) (record_after e.action) (keyed_own s.config sound.keyed k)

  key_again : action_key (again e s).action ≡ k
  key_again = back_key (action_key i.action) (get t.config (action_key i.action)) (record_after i.action)
      (keyed_own t.config sound_then.keyed (action_key i.action)) ∙ key_back

  record_again : record_after (again e s).action ≡ record_after e.action
  record_again = back_record (action_key i.action) (get t.config (action_key i.action)) (record_after i.action)
      ∙ ap (get t.config) key_back ∙ key_there e.action s.config

  module _ (u : State) (like : HasConfigAndNumbersOf u s)
      (same : (x : SubId) → is_among x (altered_by e s) ≡ true → get u.lives x ≡ get s.lives x) where
    lives_by : (x : SubId) (b : Bool) → is_among x (altered_by e s) ≡ b
        → cond b (get t.lives x) (get u.lives x) ≡ get (state_after e u).lives x
    lives_by x true among = sym (live_like e u s x like (same x among))
    lives_by x false off = sym (keeps_the_others e u x like.lived (ap (is_among x) (altered_like e u s like) ∙ off))

    -- done again it does what it does, where the configuration, the numbers and the live records
    -- are those that it found
    pub does_again : state_after (again e s) u ≡ state_after e u
    does_again =
        let after = like_after e u s like in
        let lives = same_map sub_ids_total sub_ids_exact
        (with_cells (entries (cells_at t.lives (altered_by i t))) u.lives) (state_after e u).lives (λ x.
        get_with_cells_as sub_ids_total sub_ids_exact t.lives (altered_by i t) u.lives x
        ∙ ap (λ b. cond b (get t.lives x) (get u.lives x)) (same_altered x)
        ∙ lives_by x (is_among x (altered_by e s)) refl) in
        one_back i t u sound_then (subst (HasConfigAndNumbersOf u) (sym undone) like)
        ∙ (λ j. record { config = sym after.config j; numbers = sym after.numbers j; lives = lives j })

  -- and what takes it back is what took it back
  back_again : inverse_of (again e s) s ≡ inverse_of e s
  back_again =
      let there = does_again s (record { config = refl; numbers = refl; lived = sound.lived }) (λ x among. refl) in
      λ j. record {
        action = action_back (key_again j) (get s.config (key_again j)) (record_again j);
        places = freed_numbers s.numbers (there j).numbers;
        lives = retain_keys s.lives (is_altered s (there j));
      }

  module _ (u : State) (like : HasConfigAndNumbersOf u s)
      (same : (x : SubId) → is_among x (altered_by e s) ≡ true → get u.lives x ≡ get s.lives x) where
    again_alters : (x : SubId) → is_among x (altered_by (again e s) s) ≡ is_among x (altered_by e s)
    again_alters x = among_altered s (state_after (again e s) s) x
        ∙ ap (is_altered_with x)
        (does_again s (record { config = refl; numbers = refl; lived = sound.lived }) (λ y among. refl))
        ∙ sym (among_altered s t x)
      where
        is_altered_with : SubId → State → Bool
        is_altered_with y z = is_altered s z y

    pub taken_back_alike : inverse_of (again e s) u ≡ inverse_of e s
    taken_back_alike = inverse_like (again e s) u s like (λ x among. same x (sym (again_alters x) ∙ among)) ∙ back_again

  -- the edit that takes back the one that takes it back is the one that does it again
  module _ (u : State) (like : HasConfigAndNumbersOf u t)
      (same : (x : SubId) → is_among x (altered_by e s) ≡ true → get u.lives x ≡ get t.lives x) where
    pub again_alike : inverse_of (inverse_of e s) u ≡ again e s
    again_alike = inverse_like (inverse_of e s) u t like (λ x among. same x (sym (same_altered x) ∙ among))

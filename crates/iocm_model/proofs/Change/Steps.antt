-- Steps on subchannels that a change doesn't alter, before it or after it; and the state at
-- opening.
use Rattle.std.proofs.Common.{◌≡◌, Bool, true, false, cond, List, [], ◌∷◌, map, Option, Some, None, refl, sym, ap, ◌∙◌}
use Rattle.std.specs.List.{list_any}
use Rattle.std.specs.Option.{option_zip, is_some}
use Rattle.std.specs.Ordering.{eq_by_cmp}
use Rattle.std.specs.FinMap.{contains_key, find, get, insert, entries, get-insert, get-from_entries, same_map}
use Rattle.iocm_types.specs.declared.live.Live.{Live}
use Rattle.iocm_types.specs.declared.sub_id.SubId.{SubId}
use Rattle.iocm_types.specs.declared.view.View.{View}
use Rattle.iocm_types.specs.SubId.{sub_id_cmp}
use Rattle.iocm_types.specs.KeyOrder.{keys_total, keys_exact, cells_total, cells_exact, sub_ids_total, sub_ids_exact}
use Rattle.iocm_types.proofs.Found.{same_key}
use Rattle.iocm_model.specs.Machine.Numbering.{cells_of, numbering_of, opening}
use Rattle.iocm_model.specs.Change.Maps.{with_cells, cells_at}
use Rattle.iocm_model.specs.Operation.State.{State, Lives, views_of, views_in, HasLives, seen_in, is_among, fresh_row}
use Rattle.iocm_model.specs.Machine.View.{views}
use Rattle.iocm_model.specs.Change.Effect.{Cells, values_in, with_effect}
use Rattle.iocm_model.specs.Change.Runs.{state_after_all, cells_written_by_all, effect_of}
use Rattle.iocm_model.specs.Laws.Runs.{OpeningIsSound}
use Rattle.iocm_model.specs.Laws.Steps.{StepsStaySound, Passes, StepsElsewherePass, StepsElsewherePassBack}
use Rattle.iocm_model.specs.Laws.Steps.{OverwrittenStepsVanish}
use Rattle.iocm_model.specs.Operation.Step.{Step, subchannel_in, live_after_step, lives_after_step, step_answer}
use Rattle.iocm_model.proofs.Maps.Cells.{get_with_cells_as}
use Rattle.iocm_model.proofs.Numbers.Cells.{cells_give_numbers}
use Rattle.iocm_model.proofs.Numbers.Opening.{opening_are_numbers}
use Rattle.iocm_model.proofs.Maps.Overwriting.{with_cells_is}
use Rattle.iocm_model.proofs.Change.RunsGoBack.{off_keys, off_cells, off_sight, stays_sound}

-- ---- the state at opening

fresh_there : (rows : List (SubId × View)) (x : SubId)
    → is_some (find sub_id_cmp x (map fresh_row rows)) ≡ is_some (find sub_id_cmp x rows)
fresh_there [] x = refl
fresh_there (row ∷ rows) x = by (eq_by_cmp sub_id_cmp x row.0) (fresh_row row).1 row.1 _ _ (fresh_there rows x)
  where
    by : (b : Bool) (l : Live) (v : View) (m : Option Live) (o : Option View) → is_some m ≡ is_some o
        → is_some (cond b (Some l) m) ≡ is_some (cond b (Some v) o)
    by true l v m o e = refl
    by false l v m o e = e

pub opening_is_sound : OpeningIsSound
opening_is_sound c own = record {
  keyed = own;
  numbered = opening_are_numbers c;
  lived = λ x. ap is_some (get-from_entries sub_ids_total (map fresh_row (views c (opening c))) x)
      ∙ fresh_there (views c (opening c)) x
      ∙ ap is_some (sym (get-from_entries sub_ids_total (views c (opening c)) x));
}

-- ---- steps elsewhere

swapped : (a b : Bool) (x y z : Option Live) → (a ≡ true → b ≡ false) → cond a x (cond b y z) ≡ cond b y (cond a x z)
swapped true true x y z apart = absurd (no (apart refl))
  where
    no : true ≡ false → ⊥
    no e = cc
swapped true false x y z apart = refl
swapped false b x y z apart = refl

-- a record that is put at a subchannel off some may be put before these are overwritten, or after
put_elsewhere : (from lives : Lives) (xs : List SubId) (x : SubId) (l : Live) → is_among x xs ≡ false
    → insert (with_cells (entries (cells_at from xs)) lives) x l
    ≡ with_cells (entries (cells_at from xs)) (insert lives x l)
put_elsewhere from lives xs x l off = same_map sub_ids_total sub_ids_exact _ _ (λ y.
    get-insert sub_ids_total (with_cells (entries (cells_at from xs)) lives) x l y
    ∙ ap (cond (eq_by_cmp sub_id_cmp y x) (Some l)) (get_with_cells_as sub_ids_total sub_ids_exact from xs lives y)
    ∙ swapped (eq_by_cmp sub_id_cmp y x) (list_any (eq_by_cmp sub_id_cmp y) xs) (Some l) (get from y) (get lives y)
    (λ h. ap (λ z. list_any (eq_by_cmp sub_id_cmp z) xs) (same_key sub_id_cmp sub_ids_exact y x h) ∙ off)
    ∙ ap (cond (list_any (eq_by_cmp sub_id_cmp y) xs) (get from y)) (sym (get-insert sub_ids_total lives x l y))
    ∙ sym (get_with_cells_as sub_ids_total sub_ids_exact from xs (insert lives x l) y))

step_elsewhere : (from lives : Lives) (xs : List SubId) (x : SubId) (step : Step) (p : Option (View × Live))
    → is_among x xs ≡ false
    → lives_after_step x step p (with_cells (entries (cells_at from xs)) lives)
    ≡ with_cells (entries (cells_at from xs)) (lives_after_step x step p lives)
step_elsewhere from lives xs x step None off = refl
step_elsewhere from lives xs x step (Some p) off = put_elsewhere from lives xs x (live_after_step step p.0 p.1) off

-- a step passes cells that are overwritten as a state has them, where what is seen at its
-- subchannel stays
passes : (x : SubId) (step : Step) (from u : State) (w : Cells) → is_among x w.subchannels ≡ false
    → seen_in (with_effect (values_in from w) u) x ≡ seen_in u x → Passes x step (values_in from w) u
passes x step from u w off seen =
    let v = with_effect (values_in from w) u in
    let live : get v.lives x ≡ get u.lives x =
    get_with_cells_as sub_ids_total sub_ids_exact from.lives w.subchannels u.lives x
    ∙ ap (λ b. cond b (get from.lives x) (get u.lives x)) off in
    let same : subchannel_in v x ≡ subchannel_in u x = λ i. option_zip (seen i) (live i) in
    let lives = ap (λ p. lives_after_step x step p v.lives) same
    ∙ step_elsewhere from.lives u.lives w.subchannels x step (subchannel_in u x) off in
    record {
      state = λ i. record { config = v.config; numbers = v.numbers; lives = lives i };
      answer = ap (step_answer step) same;
    }

pub steps_elsewhere_pass : StepsElsewherePass
steps_elsewhere_pass es s u x step sound free config numbers off =
    let t = state_after_all es s in let w = cells_written_by_all es s in let v = with_effect (effect_of es s) u in
    let config_is : v.config ≡ t.config = ap (with_cells (entries (cells_at t.config w.keys))) config
    ∙ with_cells_is keys_total keys_exact s.config t.config w.keys (λ q o. sym (off_keys es s q o)) in
    let numbers_is : v.numbers ≡ t.numbers =
    (λ i. numbering_of (with_cells (entries (cells_at (cells_of t.numbers) w.numbers)) (cells_of (numbers i))))
    ∙ ap numbering_of (with_cells_is cells_total cells_exact (cells_of s.numbers) (cells_of t.numbers) w.numbers
    (λ q o. sym (off_cells es s q o)))
    ∙ cells_give_numbers t.config t.numbers (stays_sound es s sound free).numbered in
    passes x step t u w off ((λ i. get (views_of (config_is i) (numbers_is i)) x) ∙ off_sight es s x off
    ∙ (λ i. get (views_of (sym config i) (sym numbers i)) x))

pub steps_elsewhere_pass_back : StepsElsewherePassBack
steps_elsewhere_pass_back es s u x step sound config numbers off =
    let t = state_after_all es s in let w = cells_written_by_all es s in let v = with_effect (values_in s w) u in
    let config_is : v.config ≡ s.config = ap (with_cells (entries (cells_at s.config w.keys))) config
    ∙ with_cells_is keys_total keys_exact t.config s.config w.keys (off_keys es s) in
    let numbers_is : v.numbers ≡ s.numbers =
    (λ i. numbering_of (with_cells (entries (cells_at (cells_of s.numbers) w.numbers)) (cells_of (numbers i))))
    ∙ ap numbering_of (with_cells_is cells_total cells_exact (cells_of t.numbers) (cells_of s.numbers) w.numbers
    (off_cells es s))
    ∙ cells_give_numbers s.config s.numbers sound.numbered in
    passes x step s u w off ((λ i. get (views_of (config_is i) (numbers_is i)) x) ∙ sym (off_sight es s x off)
    ∙ (λ i. get (views_of (sym config i) (sym numbers i)) x))

-- ---- steps on cells that are overwritten

hidden : (a b : Bool) (x y z : Option Live) → (b ≡ true → a ≡ true) → cond a x (cond b y z) ≡ cond a x z
hidden true b x y z in_both = refl
hidden false true x y z in_both = absurd (no (in_both refl))
  where
    no : false ≡ true → ⊥
    no e = cc
hidden false false x y z in_both = refl

step_with_cells : (from lives : Lives) (xs : List SubId) (x : SubId) (step : Step) (p : Option (View × Live))
    → is_among x xs ≡ true
    → with_cells (entries (cells_at from xs)) (lives_after_step x step p lives)
    ≡ with_cells (entries (cells_at from xs)) lives
step_with_cells from lives xs x step None among = refl
step_with_cells from lives xs x step (Some p) among = same_map sub_ids_total sub_ids_exact _ _ (λ y.
    get_with_cells_as sub_ids_total sub_ids_exact from xs (insert lives x (live_after_step step p.0 p.1)) y
    ∙ ap (cond (is_among y xs) (get from y)) (get-insert sub_ids_total lives x (live_after_step step p.0 p.1) y)
    ∙ hidden (is_among y xs) (eq_by_cmp sub_id_cmp y x) (get from y) (Some (live_after_step step p.0 p.1)) (get lives y)
    (λ h. ap (λ z. is_among z xs) (same_key sub_id_cmp sub_ids_exact y x h) ∙ among)
    ∙ sym (get_with_cells_as sub_ids_total sub_ids_exact from xs lives y))

pub overwritten_steps_vanish : OverwrittenStepsVanish
overwritten_steps_vanish s u w x step among = λ i. record {
  config = with_cells (entries (cells_at s.config w.keys)) u.config;
  numbers = numbering_of (with_cells (entries (cells_at (cells_of s.numbers) w.numbers)) (cells_of u.numbers));
  lives = step_with_cells s.lives u.lives w.subchannels x step (subchannel_in u x) among i;
}

-- ---- steps leave a sound state

lived_by : (b : Bool) (l : Live) (old : Option Live) (seen : Option View) → (b ≡ true → is_some seen ≡ true)
    → is_some old ≡ is_some seen
    → is_some (cond b (Some l) old) ≡ is_some seen
lived_by true l old seen there lived = sym (there refl)
lived_by false l old seen there lived = lived

zipped : (v : Option View) (l : Option Live) (p : View × Live) → option_zip v l ≡ Some p → is_some v ≡ true
zipped None l p h = cc
zipped (Some v) None p h = cc
zipped (Some v) (Some l) p h = refl

lived_after_step : (x : SubId) (step : Step) (s : State) (p : Option (View × Live)) → subchannel_in s x ≡ p → HasLives s
    → (y : SubId) → contains_key (lives_after_step x step p s.lives) y ≡ contains_key (views_in s) y
lived_after_step x step s None e lived y = lived y
lived_after_step x step s (Some p) e lived y =
    ap is_some (get-insert sub_ids_total s.lives x (live_after_step step p.0 p.1) y)
    ∙ lived_by (eq_by_cmp sub_id_cmp y x) (live_after_step step p.0 p.1) (get s.lives y) (seen_in s y)
    (λ h. ap (λ z. is_some (seen_in s z)) (same_key sub_id_cmp sub_ids_exact y x h)
    ∙ zipped (seen_in s x) (get s.lives x) p e) (lived y)

pub steps_stay_sound : StepsStaySound
steps_stay_sound x step s sound = record {
  keyed = sound.keyed;
  numbered = sound.numbered;
  lived = lived_after_step x step s (subchannel_in s x) refl sound.lived;
}

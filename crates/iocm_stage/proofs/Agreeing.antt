-- Runs of edits on a state that agrees with the one that they were made in: they write their effect
-- there, can be taken back and done again, and steps elsewhere pass them.
use Rattle.std.proofs.Common.{◌≡◌, Bool, true, false, cond, ◌||◌, List, [], ◌∷◌, ◌++◌, Option, Some, None, refl, sym}
use Rattle.std.proofs.Common.{ap, subst, append_assoc, ◌∙◌}
use Rattle.std.proofs.lemmas.Bool.{or_left, or_right}
use Rattle.std.proofs.lemmas.List.Folds.{list_any-append}
use Rattle.std.specs.Ordering.{eq_by_cmp}
use Rattle.std.specs.FinMap.{get, entries, get-insert, same_map}
use Rattle.iocm_types.specs.declared.live.Live.{Live}
use Rattle.iocm_types.specs.declared.sub_id.SubId.{SubId}
use Rattle.iocm_types.specs.declared.view.View.{View}
use Rattle.iocm_types.specs.SubId.{sub_id_cmp}
use Rattle.iocm_types.specs.KeyOrder.{keys_total, keys_exact, cells_total, cells_exact, sub_ids_total, sub_ids_exact}
use Rattle.iocm_types.proofs.Found.{same_key}
use Rattle.iocm_model.specs.Machine.Configuration.{IsKeyed}
use Rattle.iocm_model.specs.Machine.Numbering.{cells_of, numbering_of, AreNumbersOf}
use Rattle.iocm_model.specs.Change.Maps.{with_cells, cells_at}
use Rattle.iocm_model.specs.Change.Effect.{with_effect}
use Rattle.iocm_model.specs.Operation.State.{State, Lives, IsSound, HasConfigAndNumbersOf, is_among}
use Rattle.iocm_model.specs.Operation.Step.{Step, after_step, answer_in, subchannel_in, lives_after_step}
use Rattle.iocm_model.specs.Operation.Step.{live_after_step}
use Rattle.iocm_model.specs.Change.Edit.{Edit, state_after, altered_by}
use Rattle.iocm_model.specs.Change.Runs.{inverses, state_after_all, cells_written_by_all, effect_of, CarryFreeNumbers}
use Rattle.iocm_model.proofs.Maps.Cells.{get_with_cells_as}
use Rattle.iocm_model.proofs.Maps.Overwriting.{with_cells_is}
use Rattle.iocm_model.proofs.Numbers.Cells.{cells_give_numbers}
use Rattle.iocm_model.proofs.Change.RunsGoBack.{off_keys, off_cells, off_lives, run_back, sound_after, stays_sound}
use Rattle.iocm_model.proofs.Change.Steps.{steps_elsewhere_pass, steps_stay_sound}
use Rattle.iocm_stage.specs.Again.{all_again}
use Rattle.iocm_stage.proofs.Like.{like_after_all, lives_like, cells_like}
use Rattle.iocm_stage.proofs.Again.{does_again}

-- a state agrees with the one that edits were made in: it has its configuration and its numbers,
-- and its live records where the edits alter them
pub record Agrees (es : List Edit) (from s : State) : Type 0 where
  pub like : HasConfigAndNumbersOf s from
  pub lives : (x : SubId) → is_among x (cells_written_by_all es from).subchannels ≡ true
      → get s.lives x ≡ get from.lives x

-- ---- the first edits, and the rest

pub all_subchannels : (first rest : List Edit) (from : State)
    → (cells_written_by_all (first ++ rest) from).subchannels
    ≡ (cells_written_by_all first from).subchannels
    ++ (cells_written_by_all rest (state_after_all first from)).subchannels
all_subchannels [] rest from = refl
all_subchannels (e ∷ es) rest from =
    ap (λ xs. altered_by e from ++ xs) (all_subchannels es rest (state_after e from))
    ∙ sym (append_assoc (altered_by e from) (cells_written_by_all es (state_after e from)).subchannels
    (cells_written_by_all rest (state_after_all es (state_after e from))).subchannels)

pub among_all : (first rest : List Edit) (from : State) (x : SubId)
    → is_among x (cells_written_by_all (first ++ rest) from).subchannels
    ≡ (is_among x (cells_written_by_all first from).subchannels
    || is_among x (cells_written_by_all rest (state_after_all first from)).subchannels)
among_all first rest from x =
    ap (is_among x) (all_subchannels first rest from)
    ∙ list_any-append (eq_by_cmp sub_id_cmp x) (cells_written_by_all first from).subchannels _

pub agrees_first : (first rest : List Edit) (from s : State) → Agrees (first ++ rest) from s → Agrees first from s
agrees_first first rest from s a = record {
  like = a.like;
  lives = λ x among. a.lives x (among_all first rest from x ∙ or_left _ _ among);
}

pub agrees_one : (e : Edit) (es : List Edit) (from s : State) → Agrees (e ∷ es) from s
    → (x : SubId) → is_among x (altered_by e from) ≡ true → get s.lives x ≡ get from.lives x
agrees_one e es from s a x among =
    a.lives x (list_any-append (eq_by_cmp sub_id_cmp x) (altered_by e from) _ ∙ or_left _ _ among)

pub agrees_rest : (first rest : List Edit) (from s : State) → Agrees (first ++ rest) from s
    → Agrees rest (state_after_all first from) (state_after_all first s)
agrees_rest first rest from s a = record {
  like = like_after_all first s from a.like;
  lives = λ x among. lives_like first s from x a.like
      (a.lives x (among_all first rest from x
      ∙ or_right (is_among x (cells_written_by_all first from).subchannels) _ among));
}

-- ---- there and back

module _ (es : List Edit) (from s : State) (a : Agrees es from s) where
  off_all : (x : SubId) → is_among x (cells_written_by_all es from).subchannels ≡ false
      → get (state_after_all es s).lives x ≡ get s.lives x
  off_all x off = off_lives es s x a.like.lived (ap (is_among x) (cells_like es s from a.like) ∙ off)

  module _ (sound : IsSound from) (free : CarryFreeNumbers es from) where
    pub taken_back : state_after_all (inverses es from) (state_after_all es s) ≡ s
    taken_back =
        let u = state_after_all es s in
        let xs = (cells_written_by_all es from).subchannels in
        let lives = same_map sub_ids_total sub_ids_exact (with_cells (entries (cells_at from.lives xs)) u.lives) s.lives
        (λ x.
        get_with_cells_as sub_ids_total sub_ids_exact from.lives xs u.lives x ∙ by x (is_among x xs) refl) in
        run_back es from u sound free (like_after_all es s from a.like)
        ∙ (λ i. record { config = sym a.like.config i; numbers = sym a.like.numbers i; lives = lives i })
      where
        by : (x : SubId) (b : Bool) → is_among x (cells_written_by_all es from).subchannels ≡ b
            → cond b (get from.lives x) (get (state_after_all es s).lives x) ≡ get s.lives x
        by x true among = sym (a.lives x among)
        by x false off = off_all x off

    -- they write their effect
    pub writes : with_effect (effect_of es from) s ≡ state_after_all es s
    writes =
        let t = state_after_all es from in let w = cells_written_by_all es from in let after =
        like_after_all es s from a.like in
        let config = ap (with_cells (entries (cells_at t.config w.keys))) a.like.config
        ∙ with_cells_is keys_total keys_exact from.config t.config w.keys (λ q off. sym (off_keys es from q off))
        ∙ sym after.config in
        let numbers = (λ i. numbering_of
        (with_cells (entries (cells_at (cells_of t.numbers) w.numbers)) (cells_of (a.like.numbers i))))
        ∙ ap numbering_of (with_cells_is cells_total cells_exact (cells_of from.numbers) (cells_of t.numbers) w.numbers
        (λ q off. sym (off_cells es from q off)))
        ∙ cells_give_numbers t.config t.numbers (stays_sound es from sound free).numbered ∙ sym after.numbers in
        let lives = same_map sub_ids_total sub_ids_exact (with_cells (entries (cells_at t.lives w.subchannels)) s.lives)
        (state_after_all es s).lives (λ x.
        get_with_cells_as sub_ids_total sub_ids_exact t.lives w.subchannels s.lives x
        ∙ by x (is_among x w.subchannels) refl) in
        λ i. record { config = config i; numbers = numbers i; lives = lives i }
      where
        by : (x : SubId) (b : Bool) → is_among x (cells_written_by_all es from).subchannels ≡ b
            → cond b (get (state_after_all es from).lives x) (get s.lives x) ≡ get (state_after_all es s).lives x
        by x true among = sym (lives_like es s from x a.like (a.lives x among))
        by x false off = sym (off_all x off)

-- done again they do what they do
pub all_do_again : (es : List Edit) (from s : State) → Agrees es from s → IsSound from → CarryFreeNumbers es from
    → state_after_all (all_again es from) s ≡ state_after_all es s
all_do_again [] from s a sound free = refl
all_do_again (e ∷ es) from s a sound free =
    ap (state_after_all (all_again es (state_after e from)))
    (does_again e from sound free.0 s a.like (agrees_one e es from s a))
    ∙ all_do_again es (state_after e from) (state_after e s) (agrees_rest (e ∷ []) es from s a)
    (sound_after e from sound free.0) free.1

-- ---- steps elsewhere

off_step : (x y : SubId) (step : Step) (p : Option (View × Live)) (lives : Lives) → eq_by_cmp sub_id_cmp y x ≡ false
    → get (lives_after_step x step p lives) y ≡ get lives y
off_step x y step None lives off = refl
off_step x y step (Some p) lives off =
    get-insert sub_ids_total lives x (live_after_step step p.0 p.1) y
    ∙ ap (λ b. cond b (Some (live_after_step step p.0 p.1)) (get lives y)) off

apart : (x y : SubId) (xs : List SubId) → is_among x xs ≡ false → is_among y xs ≡ true
    → eq_by_cmp sub_id_cmp y x ≡ false
apart x y xs off among = by (eq_by_cmp sub_id_cmp y x) refl
  where
    by : (b : Bool) → eq_by_cmp sub_id_cmp y x ≡ b → b ≡ false
    by true is = let no : true ≡ false =
        sym among ∙ ap (λ z. is_among z xs) (same_key sub_id_cmp sub_ids_exact y x is) ∙ off in no
    by false is = refl

module _ (es : List Edit) (from s : State) (a : Agrees es from s) (x : SubId) (step : Step)
    (off : is_among x (cells_written_by_all es from).subchannels ≡ false)
    (sound : IsSound from) where
  sound_here : IsSound s
  sound_here = record {
    keyed = subst IsKeyed (sym a.like.config) sound.keyed;
    numbered = subst (λ n. AreNumbersOf s.config n) (sym a.like.numbers)
        (subst (λ c. AreNumbersOf c from.numbers) (sym a.like.config) sound.numbered);
    lived = a.like.lived;
  }

  pub agrees_after_step : Agrees es from (after_step x step s)
  agrees_after_step = record {
    like = record {
      config = a.like.config;
      numbers = a.like.numbers;
      lived = (steps_stay_sound x step s sound_here).lived;
    };
    lives = λ y among. off_step x y step (subchannel_in s x) s.lives
        (apart x y (cells_written_by_all es from).subchannels off among) ∙ a.lives y among;
  }

  module _ (free : CarryFreeNumbers es from) where
    pub step_passes : after_step x step (state_after_all es s) ≡ state_after_all es (after_step x step s)
    step_passes =
        let passes = steps_elsewhere_pass es from s x step sound free a.like.config a.like.numbers off in
        ap (after_step x step) (sym (writes es from s a sound free)) ∙ passes.state
        ∙ writes es from (after_step x step s) agrees_after_step sound free

    pub same_answer : answer_in (state_after_all es s) x step ≡ answer_in s x step
    same_answer = ap (λ u. answer_in u x step) (sym (writes es from s a sound free))
        ∙ (steps_elsewhere_pass es from s x step sound free a.like.config a.like.numbers off).answer

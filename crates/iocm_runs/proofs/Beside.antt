-- Two runs beside each other, of which one leaves out the steps on some subchannels: each keeps its
-- configuration and numbers, and their live records are the same off these subchannels.
use Rattle.std.proofs.Common.{◌≡◌, inl, ℕ, Bool, true, false, cond, ◌&&◌, not, [], ◌∷◌, ◌++◌, List, Option, Some, None}
use Rattle.std.proofs.Common.{refl, sym, ap, subst, ◌∙◌}
use Rattle.std.proofs.lemmas.Bool.{or_parts}
use Rattle.std.specs.List.{list_any}
use Rattle.std.specs.Option.{option_zip}
use Rattle.std.specs.Ordering.{eq_by_cmp}
use Rattle.std.specs.FinMap.{get, get-insert}
use Rattle.iocm_types.specs.declared.live.Live.{Live}
use Rattle.iocm_types.specs.declared.sub_id.SubId.{SubId}
use Rattle.iocm_types.specs.declared.view.View.{View}
use Rattle.iocm_types.specs.SubId.{sub_id_cmp}
use Rattle.iocm_types.specs.KeyOrder.{sub_ids_total, sub_ids_exact}
use Rattle.iocm_types.proofs.Found.{same_key}
use Rattle.iocm_model.specs.Operation.State.{State, Lives, is_among, views_of, seen_in}
use Rattle.iocm_model.specs.Operation.Step.{Step, order, device_begin, device_end, subchannel_in, live_after_step}
use Rattle.iocm_model.specs.Operation.Step.{lives_after_step, step_answer, after_step, answer_in}
use Rattle.iocm_history.specs.Entry.{at, Entry, History, plain_entry}
use Rattle.iocm_history.specs.Store.{store_of, state_of}
use Rattle.iocm_history.specs.MarkedEntry.{nothing, kept, change_at}
use Rattle.iocm_history.specs.Stage.{is_held}
use Rattle.iocm_history.specs.Account.{replay, account, marked_entries, state_at}
use Rattle.iocm_history.specs.Legal.{unless_held, IsRight, IsLegal}
use Rattle.iocm_history.specs.StageLaws.{is_done}
use Rattle.iocm_history.specs.InUse.{IsInUse}
use Rattle.iocm_history.proofs.Striking.{made, entry}
use Rattle.iocm_history.proofs.Undone.{inert_replay}
use Rattle.iocm_history.proofs.Settled.{nothing_inert}
use Rattle.iocm_history.proofs.EachCall.{steps_step}
use Rattle.iocm_runs.specs.RunWithout.{alters_changes, is_at, steps_off}
use Rattle.iocm_runs.proofs.Resting.{Rests, rests, steps, may_rest}

-- ---- a step and live records

-- a step leaves other live records, and the same at its subchannel where the same is there
lives_at : (x : SubId) (made : Step) (p : Option (View × Live)) (lives : Lives) (y : SubId) (b : Bool)
    → eq_by_cmp sub_id_cmp y x ≡ b
    → b ≡ false → get (lives_after_step x made p lives) y ≡ get lives y
lives_at x made None lives y b is off = refl
lives_at x made (Some p) lives y b is off =
    get-insert sub_ids_total lives x (live_after_step made p.0 p.1) y
    ∙ ap (λ c. cond c (Some (live_after_step made p.0 p.1)) (get lives y)) (is ∙ off)

lives_same : (x : SubId) (made : Step) (p : Option (View × Live)) (m o : Lives) (y : SubId) → get m y ≡ get o y
    → get (lives_after_step x made p m) y ≡ get (lives_after_step x made p o) y
lives_same x made None m o y same = same
lives_same x made (Some p) m o y same =
    get-insert sub_ids_total m x (live_after_step made p.0 p.1) y
    ∙ ap (cond (eq_by_cmp sub_id_cmp y x) (Some (live_after_step made p.0 p.1))) same
    ∙ sym (get-insert sub_ids_total o x (live_after_step made p.0 p.1) y)

-- a subchannel that isn't among these is another than one that is
another : (xs : List SubId) (x y : SubId) (b : Bool) → is_among x xs ≡ b → is_among y xs ≡ not b
    → eq_by_cmp sub_id_cmp y x ≡ false
another xs x y b there off = by (eq_by_cmp sub_id_cmp y x) refl b there off
  where
    by : (c : Bool) → eq_by_cmp sub_id_cmp y x ≡ c → (b : Bool) → is_among x xs ≡ b → is_among y xs ≡ not b
        → eq_by_cmp sub_id_cmp y x ≡ false
    by false is b there off = is
    by true is true there off =
        let same : is_among y xs ≡ is_among x xs = ap (λ z. is_among z xs) (same_key sub_id_cmp sub_ids_exact y x is) in
        let no : true ≡ false = sym there ∙ sym same ∙ off in cc
    by true is false there off =
        let same : is_among y xs ≡ is_among x xs = ap (λ z. is_among z xs) (same_key sub_id_cmp sub_ids_exact y x is) in
        let no : false ≡ true = sym there ∙ sym same ∙ off in cc

-- ---- two runs

-- two states: each has the configuration and the numbers of one before, live records are the same
-- off the subchannels, and on them the second's are as before
pub record AreBeside (xs : List SubId) (t r s u : State) : Type 0 where
  pub config_with : s.config ≡ t.config
  pub numbers_with : s.numbers ≡ t.numbers
  pub config_without : u.config ≡ r.config
  pub numbers_without : u.numbers ≡ r.numbers
  pub off : (x : SubId) → is_among x xs ≡ false → get s.lives x ≡ get u.lives x
  pub on : (x : SubId) → is_among x xs ≡ true → get u.lives x ≡ get r.lives x

-- a value by a test, where each way it is the same
pub pick : {A B : Type 0} (f : A → B) (b : Bool) (x y z : A) → (b ≡ true → x ≡ z) → (b ≡ false → y ≡ z)
    → cond b (f x) (f y) ≡ f z
pick f true x y z on off = ap f (on refl)
pick f false x y z on off = ap f (off refl)

module _ (xs : List SubId) (t r : State) (sees : (x : SubId) → is_among x xs ≡ false → seen_in t x ≡ seen_in r x) where
  -- the same is there off the subchannels
  same_there : (s u : State) (x : SubId) → AreBeside xs t r s u → is_among x xs ≡ false → seen_in s x ≡ seen_in u x
  same_there s u x b off =
      (λ i. get (views_of (b.config_with i) (b.numbers_with i)) x) ∙ sees x off
      ∙ (λ i. get (views_of (sym b.config_without i) (sym b.numbers_without i)) x)

  subchannel_same : (s u : State) (x : SubId) → AreBeside xs t r s u → is_among x xs ≡ false
      → subchannel_in s x ≡ subchannel_in u x
  subchannel_same s u x b off = λ i. option_zip (same_there s u x b off i) (b.off x off i)

  -- a step off the subchannels in both
  step_off : (s u : State) (x : SubId) (made : Step) → AreBeside xs t r s u → is_among x xs ≡ false
      → AreBeside xs t r (after_step x made s) (after_step x made u)
  step_off s u x made b away = record {
    config_with = b.config_with;
    numbers_with = b.numbers_with;
    config_without = b.config_without;
    numbers_without = b.numbers_without;
    off = λ y off. (λ i. get (lives_after_step x made (subchannel_same s u x b away i) s.lives) y)
        ∙ lives_same x made (subchannel_in u x) s.lives u.lives y (b.off y off);
    on = λ y on. lives_at x made (subchannel_in u x) u.lives y _ refl (another xs x y false away on) ∙ b.on y on;
  }

  -- a step on them in the first alone
  step_on : (s u : State) (x : SubId) (made : Step) → AreBeside xs t r s u → is_among x xs ≡ true
      → AreBeside xs t r (after_step x made s) u
  step_on s u x made b here = record {
    config_with = b.config_with;
    numbers_with = b.numbers_with;
    config_without = b.config_without;
    numbers_without = b.numbers_without;
    off = λ y off. lives_at x made (subchannel_in s x) s.lives y _ refl (another xs x y true here off) ∙ b.off y off;
    on = b.on;
  }

-- ---- along what came

-- two histories, of which off these subchannels the same is seen at first, live records are the
-- same, and the second holds nothing
pub record StartsBeside (opening : State) (xs : List SubId) (g h : History) : Type 0 where
  pub used : IsInUse opening
  pub legal_with : IsLegal opening g
  pub legal_without : IsLegal opening h
  pub sees : (x : SubId) → is_among x xs ≡ false → seen_in (state_at opening g) x ≡ seen_in (state_at opening h) x
  pub off : (x : SubId) → is_among x xs ≡ false → get (state_at opening g).lives x ≡ get (state_at opening h).lives x
  pub held : (x : SubId) → is_among x xs ≡ false → is_held x (account opening h).stage ≡ false

-- where the same entries come on both, but for the steps on these subchannels: the second is legal,
-- and holds nothing off them; on the first no change comes
pub record IsBeside (opening : State) (xs : List SubId) (g h since : History) : Type 0 where
  pub beside : AreBeside xs (state_at opening g) (state_at opening h) (state_at opening (since ++ g))
      (state_at opening (steps_off xs since ++ h))
  pub legal : IsLegal opening (steps_off xs since ++ h)
  pub held : (x : SubId) → is_among x xs ≡ false → is_held x (account opening (steps_off xs since ++ h)).stage ≡ false
  pub there : (n : ℕ) → change_at n (marked_entries opening (since ++ g)) ≡ change_at n (marked_entries opening g)

module _ (opening : State) (xs : List SubId) (g h : History) (start : StartsBeside opening xs g h) where
  abbrev t : State
  t = state_at opening g

  abbrev r : State
  r = state_at opening h

  abbrev with_it : History → History
  with_it since = since ++ g

  abbrev without_it : History → History
  without_it since = steps_off xs since ++ h

  abbrev Beside : History → Type 0
  Beside since = IsBeside opening xs g h since

  beside_start : Beside []
  beside_start = record {
    beside = record {
      config_with = refl;
      numbers_with = refl;
      config_without = refl;
      numbers_without = refl;
      off = start.off;
      on = λ x on. refl;
    };
    legal = start.legal_without;
    held = start.held;
    there = λ n. refl;
  }

  -- an entry that is left out
  left_out : (l : Entry) (since : History) → (is_done l.call l.answer && not (is_at xs l.call)) ≡ false
      → without_it (l ∷ since) ≡ without_it since
  left_out l since none = ap (λ b. cond b (l ∷ steps_off xs since) (steps_off xs since) ++ h) none

  put_out : (l : Entry) (since : History) → (is_done l.call l.answer && not (is_at xs l.call)) ≡ false
      → AreBeside xs t r (state_at opening (with_it (l ∷ since))) (state_at opening (without_it since))
      → ((n : ℕ) → change_at n (marked_entries opening (with_it (l ∷ since)))
      ≡ change_at n (marked_entries opening (with_it since))) → Beside since → Beside (l ∷ since)
  put_out l since none both there b =
      let same = sym (left_out l since none) in record {
        beside = subst (λ k. AreBeside xs t r (state_at opening (with_it (l ∷ since))) (state_at opening k)) same both;
        legal = subst (IsLegal opening) same b.legal;
        held = λ x off. ap (λ k. is_held x (account opening k).stage) (sym same) ∙ b.held x off;
        there = λ n. there n ∙ b.there n;
      }

  beside_rest : (l : Entry) (since : History)
      → marked_entries opening (with_it (l ∷ since)) ≡ entry nothing kept ∷ marked_entries opening (with_it since)
      → is_done l.call l.answer ≡ false → Beside since → Beside (l ∷ since)
  beside_rest l since entries none b =
      let stays : state_at opening (with_it (l ∷ since)) ≡ state_at opening (with_it since) =
      ap (λ ls. state_of (replay (store_of opening) ls)) entries
      ∙ ap state_of (inert_replay (store_of opening) (entry nothing kept) (marked_entries opening (with_it since))
      nothing_inert) in
      put_out l since (ap (λ d. d && not (is_at xs l.call)) none)
      (subst (λ s. AreBeside xs t r s (state_at opening (without_it since))) (sym stays) b.beside)
      (λ n. ap (change_at n) entries) b

  -- a step that was done
  module _ (x : SubId) (made : Step) (since : History) (legal : IsLegal opening (with_it since))
      (b : Beside since) where
    abbrev s : State
    s = state_at opening (with_it since)

    abbrev u : State
    u = state_at opening (without_it since)

    abbrev l : Entry
    l = plain_entry (at x made) (answer_in s x made)

    step_with : state_at opening (with_it (l ∷ since)) ≡ after_step x made s
    step_with = steps_step opening (with_it since) x made start.used legal

    -- it keeps what is staged, and is no change
    record Steps (k : History) : Type 0 where
      stage : (account opening (l ∷ k)).stage ≡ (account opening k).stage
      there : (n : ℕ) → change_at n (marked_entries opening (l ∷ k)) ≡ change_at n (marked_entries opening k)

    beside_on : is_among x xs ≡ true → Steps (with_it since) → Beside (l ∷ since)
    beside_on here stepped =
        put_out l since (ap (λ d. is_done (at x made) (answer_in s x made) && not d) here
        ∙ and_none (is_done (at x made) (answer_in s x made)))
        (subst (λ z. AreBeside xs t r z u) (sym step_with) (step_on xs t r start.sees s u x made b.beside here))
        stepped.there b
      where
        and_none : (d : Bool) → (d && false) ≡ false
        and_none true = refl
        and_none false = refl

    kept_too : is_among x xs ≡ false → is_done (at x made) (answer_in s x made) ≡ true
        → without_it (l ∷ since) ≡ l ∷ without_it since
    kept_too away done = λ i. cond (done i && not (away i)) (l ∷ steps_off xs since) (steps_off xs since) ++ h

    -- it is answered so in the other run
    answer_same : is_among x xs ≡ false → answer_in s x made ≡ answer_in u x made
    answer_same away = ap (step_answer made) (subchannel_same xs t r start.sees s u x b.beside away)

    right_there : is_among x xs ≡ false → IsRight opening (without_it since) l
    right_there away = inl (ap (plain_entry (at x made)) (answer_same away)
        ∙ ap (λ d. plain_entry (at x made) (unless_held d (answer_in u x made))) (sym (b.held x away)))

    step_without : is_among x xs ≡ false → state_at opening (l ∷ without_it since) ≡ after_step x made u
    step_without away = ap (λ w. state_at opening (plain_entry (at x made) w ∷ without_it since)) (answer_same away)
        ∙ steps_step opening (without_it since) x made start.used b.legal

    beside_off : is_among x xs ≡ false → is_done (at x made) (answer_in s x made) ≡ true → ((k : History) → Steps k)
        → Beside (l ∷ since)
    beside_off away done stepped =
        let same = sym (kept_too away done) in record {
          beside = subst (λ k. AreBeside xs t r (state_at opening (with_it (l ∷ since))) (state_at opening k)) same
              (subst (λ z. AreBeside xs t r z (state_at opening (l ∷ without_it since))) (sym step_with)
              (subst (AreBeside xs t r (after_step x made s)) (sym (step_without away))
              (step_off xs t r start.sees s u x made b.beside away)));
          legal = subst (IsLegal opening) same (right_there away, b.legal);
          held = λ y off. ap (λ k. is_held y (account opening k).stage) (sym same)
              ∙ ap (is_held y) (stepped (without_it since)).stage ∙ b.held y off;
          there = λ n. (stepped (with_it since)).there n ∙ b.there n;
        }

    beside_by : (here : Bool) → is_among x xs ≡ here → is_done (at x made) (answer_in s x made) ≡ true
        → ((k : History) → Steps k) → Beside (l ∷ since)
    beside_by true here done stepped = beside_on here (stepped (with_it since))
    beside_by false away done stepped = beside_off away done stepped

  beside_step : (x : SubId) (made : Step) (since : History) → IsLegal opening (with_it since) → Beside since
      → Beside (plain_entry (at x made) (answer_in (state_at opening (with_it since)) x made) ∷ since)
  unfolding account
  beside_step x (order o) since legal b =
      beside_by x (order o) since legal b (is_among x xs) refl refl (λ k. record { stage = refl; there = λ n. refl })
  beside_step x device_begin since legal b =
      beside_by x device_begin since legal b (is_among x xs) refl refl (λ k. record { stage = refl; there = λ n. refl })
  beside_step x device_end since legal b =
      beside_by x device_end since legal b (is_among x xs) refl refl (λ k. record { stage = refl; there = λ n. refl })

  pub along : (since : History) → IsLegal opening (with_it since)
      → list_any (λ (l : Entry). alters_changes l.answer) since ≡ false → Beside since
  along [] legal none = beside_start
  along (l ∷ since) legal none =
      let both = or_parts (alters_changes l.answer) _ none in
      by (along since legal.1 both.1) (may_rest opening (with_it since) l legal.0 both.0)
    where
      by : Beside since → Rests opening (with_it since) l → Beside (l ∷ since)
      by b (rests entries out) = beside_rest l since entries out b
      by b (steps x made is) = subst (λ k. Beside (k ∷ since)) (sym is) (beside_step x made since legal.1 b)

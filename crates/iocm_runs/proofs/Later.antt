-- Where the run without an undone change is legal, it leads to the state after the undo, also under
-- later changes.
use Rattle.std.proofs.Common.{◌≡◌, ◌≤◌, inl, inr, ℕ, ◌-◌, Bool, true, false, cond, ◌&&◌, ◌||◌, not, eqb, List, [], ◌∷◌}
use Rattle.std.proofs.Common.{◌++◌, Option, None, refl, sym, ap, subst, ◌∙◌, map, filter, arith}
use Rattle.std.proofs.lemmas.Bool.{or_parts, or_from, or_right, ne_eqb, eq-eqb}
use Rattle.std.specs.List.{list_any}
use Rattle.std.specs.FinMap.{get, keys}
use Rattle.iocm_types.specs.declared.answer.Answer.TheVariants as answers
use Rattle.iocm_types.specs.declared.live.Live.{Live}
use Rattle.iocm_types.specs.declared.sub_id.SubId.{SubId}
use Rattle.iocm_model.specs.Operation.State.{State, is_among}
use Rattle.iocm_model.specs.Operation.Step.{Step, order, device_begin, device_end, after_step, answer_in}
use Rattle.iocm_history.specs.Entry.{at, Entry, History, plain_entry}
use Rattle.iocm_history.specs.Store.{Store, store_of, state_of, store_with}
use Rattle.iocm_history.specs.Change.{Change, effect_of_change, altered}
use Rattle.iocm_history.specs.MarkedEntry.{step, undoing, nothing, kept, undone_with, MarkedEntry, effect_of_act}
use Rattle.iocm_history.specs.MarkedEntry.{effect_of_entry, is_change, altered_if, altered_by_change, struck_if}
use Rattle.iocm_history.specs.MarkedEntry.{without_change}
use Rattle.iocm_history.specs.Stage.{is_held}
use Rattle.iocm_history.specs.Account.{replay, Account, account, marked_entries, state_at}
use Rattle.iocm_history.specs.StandsOn.{since}
use Rattle.iocm_history.specs.Journal.{Journal, journal_after, journal_of}
use Rattle.iocm_history.specs.Legal.{unless_held, IsRight, IsLegal}
use Rattle.iocm_history.specs.StageLaws.{is_done}
use Rattle.iocm_history.specs.UndoLaws.{undo_entry, struck_steps, before}
use Rattle.iocm_history.specs.InUse.{IsInUse}
use Rattle.iocm_history.proofs.OneCell.{Cell, at_subchannel, read, written, none_written, same_store, live_read}
use Rattle.iocm_history.proofs.OneCell.{altered_cells}
use Rattle.iocm_history.proofs.Striking.{has, made, entry, skipped, alike, off_steps}
use Rattle.iocm_history.proofs.Apart.{writes_not}
use Rattle.iocm_history.proofs.Passing.{since_past, since_here, change_past, change_here}
use Rattle.iocm_history.proofs.Undone.{inert_replay, undoing_inert}
use Rattle.iocm_history.proofs.Settled.{nothing_inert}
use Rattle.iocm_history.proofs.EachCall.{states_stay_in_use}
use Rattle.iocm_history.proofs.RunWithout.{undo_leaves_the_run_without}
use Rattle.iocm_history.proofs.Redoing.{legal_before}
use Rattle.iocm_runs.specs.RunWithout.{is_at, altered_by}
use Rattle.iocm_runs.specs.LaterChanges.{goes_back_or_forth, is_for_a_change, one_less, with_one_less, is_left}
use Rattle.iocm_runs.specs.LaterChanges.{run_with_the_later, LegalRunsWithoutLeadThere}
use Rattle.iocm_runs.proofs.Accepted.{HasAccepted, has_accepted}
use Rattle.iocm_runs.proofs.Answered.{leaves_alike}
use Rattle.iocm_runs.proofs.Coming.{IsIdle, Comes, idles, steps, changes, undoes, redoes, comes}

-- ---- replays

-- an entry that writes nothing
skip : (m : Store) (l : MarkedEntry) (ls : List MarkedEntry) → ((q : Cell) → written (effect_of_entry l) q ≡ None)
    → replay m (l ∷ ls) ≡ replay m ls
skip m l ls none = same_store _ _ (λ q. skipped m q l ls (none q))

replay_append : (m : Store) (new ls : List MarkedEntry) → replay m (new ++ ls) ≡ replay (replay m ls) new
replay_append m [] ls = refl
replay_append m (l ∷ new) ls = ap (store_with (effect_of_entry l)) (replay_append m new ls)

before_past : (n : ℕ) (c : Change) (base front : List MarkedEntry) → has (is_change n) front ≡ false
    → before n (front ++ made n c ∷ base) ≡ base
before_past n c base [] none = let same = since_here n c base in at_it (eqb n n) (eq-eqb n n refl)
  where
    at_it : (b : Bool) → b ≡ true → cond b base (before n base) ≡ base
    at_it true is = refl
    at_it false is = cc
before_past n c base (l ∷ front) none =
    let both = or_parts (is_change n l.act) _ none in
    ap (λ b. cond b (front ++ made n c ∷ base) (before n (front ++ made n c ∷ base))) both.0
    ∙ before_past n c base front both.1

-- ---- beside the run without the change

-- an answer to a step isn't Held
not_held : (s : State) (x : SubId) (made : Step) → answer_in s x made ≡ answers.Held → ⊥
not_held s x (order o) is = cc
not_held s x device_begin is = cc
not_held s x device_end is = cc

held_by : (s u : State) (x : SubId) (made : Step) (held : Bool)
    → answer_in s x made ≡ unless_held held (answer_in u x made) → answer_in s x made ≡ answer_in u x made
held_by s u x made true is = absurd (not_held s x made is)
held_by s u x made false is = is

module _ (opening : State) (h : History) (e : Entry) (n : ℕ) (used : IsInUse opening)
    (legal_e : IsLegal opening (e ∷ h)) (answer : e.answer ≡ answers.Changed n)
    (accepted : HasAccepted opening h e n) where
  abbrev m : Store
  m = store_of opening

  abbrev c : Change
  c = accepted.change

  abbrev xs : List SubId
  xs = altered_by e

  abbrev base : List MarkedEntry
  base = marked_entries opening h

  abbrev with_it : History → History
  with_it since = since ++ e ∷ h

  abbrev without_it : History → History
  without_it since = run_with_the_later e since h

  xs_is : xs ≡ altered c
  xs_is = ap (λ f. keys f.lives) accepted.effect

  -- what came since in both runs: with the steps on the subchannels struck it writes the same
  record IsAlike (later : History) : Type 0 where
    front : List MarkedEntry
    left : List MarkedEntry
    with_is : marked_entries opening (with_it later) ≡ front ++ made n c ∷ base
    without_is : marked_entries opening (without_it later) ≡ left ++ base
    same : (o : Store) → replay o (struck_steps xs (undone_with n) front) ≡ replay o left
    others : has (is_change n) front ≡ false
    count : n ≤ (journal_of (with_it later)).count
    lives : (x : SubId) → is_among x xs ≡ false
        → read (replay m (marked_entries opening (with_it later))) (at_subchannel x)
        ≡ read (replay m (marked_entries opening (without_it later))) (at_subchannel x)

  -- an entry that is left, and one that isn't
  left_as : (l : Entry) (later : History) (b : Bool) → is_left xs l ≡ b
      → without_it (l ∷ later) ≡ cond b (with_one_less l ∷ without_it later) (without_it later)
  left_as l later b is = ap
      (λ d. map with_one_less (cond d (l ∷ filter (is_left xs) later) (filter (is_left xs) later)) ++ h) is ∙ by b
    where
      by : (d : Bool) → map with_one_less (cond d (l ∷ filter (is_left xs) later) (filter (is_left xs) later)) ++ h
          ≡ cond d (with_one_less l ∷ without_it later) (without_it later)
      by true = refl
      by false = refl

  alike_change : IsAlike []
  alike_change = record {
    front = [];
    left = [];
    with_is = ap (λ (a : Account). a.entries) accepted.entries;
    without_is = refl;
    same = λ o. refl;
    others = refl;
    count = subst (λ a. n ≤ (journal_after a (journal_of h)).count) (sym answer) (omega arith);
    lives = λ x off. ap (λ (a : Account). read (replay m a.entries) (at_subchannel x)) accepted.entries
        ∙ skipped m (at_subchannel x) (made n c) base
        (writes_not c (at_subchannel x) (sym (altered_cells c x) ∙ ap (is_among x) (sym xs_is) ∙ off));
  }

  -- ---- an entry that does nothing

  alike_idle : (l : Entry) (later : History) → IsIdle l → IsAlike later → IsAlike (l ∷ later)
  alike_idle l later idle b = by (is_left xs l) refl
    where
      by : (d : Bool) → is_left xs l ≡ d → IsAlike (l ∷ later)
      by d is = record {
        front = entry nothing kept ∷ b.front;
        left = cond d (entry nothing kept ∷ b.left) b.left;
        with_is = idle.entries opening (with_it later) ∙ ap (λ ls. entry nothing kept ∷ ls) b.with_is;
        without_is = ap (marked_entries opening) (left_as l later d is) ∙ kept_by d;
        same = λ o. inert_replay o (entry nothing kept) (struck_steps xs (undone_with n) b.front) nothing_inert
            ∙ b.same o ∙ played o d;
        others = b.others;
        count = subst (λ (j : Journal). n ≤ j.count) (sym (idle.journal (with_it later))) b.count;
        lives = λ x off. (λ j. read (replay m (idle.entries opening (with_it later) j)) (at_subchannel x))
            ∙ ap (λ o. read o (at_subchannel x))
            (inert_replay m (entry nothing kept) (marked_entries opening (with_it later)) nothing_inert)
            ∙ b.lives x off
            ∙ read_by x d ∙ ap (λ k. read (replay m (marked_entries opening k)) (at_subchannel x))
            (sym (left_as l later d is));
      }
        where
          kept_by : (d : Bool) → marked_entries opening (cond d (with_one_less l ∷ without_it later) (without_it later))
              ≡ cond d (entry nothing kept ∷ b.left) b.left ++ base
          kept_by true = ap (λ k. marked_entries opening (k ∷ without_it later)) idle.same
              ∙ idle.entries opening (without_it later) ∙ ap (λ ls. entry nothing kept ∷ ls) b.without_is
          kept_by false = b.without_is

          read_by : (x : SubId) (d : Bool)
              → read (replay m (marked_entries opening (without_it later))) (at_subchannel x)
              ≡ read (replay m (marked_entries opening
              (cond d (with_one_less l ∷ without_it later) (without_it later)))) (at_subchannel x)
          read_by x true = ap (λ o. read o (at_subchannel x))
              (sym (inert_replay m (entry nothing kept) (marked_entries opening (without_it later)) nothing_inert))
              ∙ (λ j. read (replay m (sym (idle.entries opening (without_it later)) j)) (at_subchannel x))
              ∙ ap (λ k. read (replay m (marked_entries opening (k ∷ without_it later))) (at_subchannel x))
              (sym idle.same)
          read_by x false = refl

          played : (o : Store) (d : Bool) → replay o b.left ≡ replay o (cond d (entry nothing kept ∷ b.left) b.left)
          played o true = sym (inert_replay o (entry nothing kept) b.left nothing_inert)
          played o false = refl

  -- ---- a step that was done

  -- what an entry of a step does wherever it comes
  record IsStep (x : SubId) (made : Step) (l : Entry) : Type 0 where
    entries : (g : History) → marked_entries opening (l ∷ g)
        ≡ entry (step x made (get (after_step x made (state_at opening g)).lives x)) kept ∷ marked_entries opening g
    journal : (g : History) → journal_of (l ∷ g) ≡ journal_of g
    same : with_one_less l ≡ l
    done : is_done l.call l.answer ≡ true
    no_change : is_for_a_change l.answer ≡ false

  is_step : (x : SubId) (made : Step) (s : State) → IsStep x made (plain_entry (at x made) (answer_in s x made))
  unfolding account
  is_step x (order o) s = record
      { entries = λ g. refl; journal = λ g. refl; same = refl; done = refl; no_change = refl }
  is_step x device_begin s =
      record { entries = λ g. refl; journal = λ g. refl; same = refl; done = refl; no_change = refl }
  is_step x device_end s =
      record { entries = λ g. refl; journal = λ g. refl; same = refl; done = refl; no_change = refl }

  module _ (x : SubId) (made : Step) (later : History) (legal_with : IsLegal opening (with_it later))
      (b : IsAlike later) where
    abbrev s : State
    s = state_at opening (with_it later)

    abbrev u : State
    u = state_at opening (without_it later)

    abbrev l : Entry
    l = plain_entry (at x made) (answer_in s x made)

    fact : IsStep x made l
    fact = is_step x made s

    abbrev live_with : Option Live
    live_with = get (after_step x made s).lives x

    abbrev live_without : Option Live
    live_without = get (after_step x made u).lives x

    left_by : (here : Bool) → is_among x xs ≡ here → is_left xs l ≡ not here
    left_by here is = (λ j. (fact.done j && not (is j)) || fact.no_change j) ∙ by here
      where
        by : (d : Bool) → ((true && not d) || false) ≡ not d
        by true = refl
        by false = refl

    -- on the subchannels it is struck, and isn't left
    alike_on : is_among x xs ≡ true → IsAlike (l ∷ later)
    alike_on here =
        let out : without_it (l ∷ later) ≡ without_it later = left_as l later false (left_by true here) in record {
          front = entry (step x made live_with) kept ∷ b.front;
          left = b.left;
          with_is = fact.entries (with_it later) ∙ ap (λ ls. entry (step x made live_with) kept ∷ ls) b.with_is;
          without_is = ap (marked_entries opening) out ∙ b.without_is;
          same = λ o. (λ j. replay o
              (struck_if (here j) (undone_with n) (entry (step x made live_with) kept)
              ∷ struck_steps xs (undone_with n) b.front))
              ∙ skip o (entry (step x made live_with) (undone_with n)) (struck_steps xs (undone_with n) b.front)
              (λ q. none_written q) ∙ b.same o;
          others = b.others;
          count = subst (λ (j : Journal). n ≤ j.count) (sym (fact.journal (with_it later))) b.count;
          lives = λ y off. (λ j. read (replay m (fact.entries (with_it later) j)) (at_subchannel y))
              ∙ skipped m (at_subchannel y) (entry (step x made live_with) kept)
              (marked_entries opening (with_it later)) (off_steps xs y off x made live_with here)
              ∙ b.lives y off ∙ ap (λ k. read (replay m (marked_entries opening k)) (at_subchannel y)) (sym out);
        }

    -- elsewhere it is left, and does the same
    module _ (away : is_among x xs ≡ false) (legal_without : IsLegal opening (without_it (l ∷ later))) where
      stays : without_it (l ∷ later) ≡ l ∷ without_it later
      stays = left_as l later true (left_by false away) ∙ ap (λ k. k ∷ without_it later) fact.same

      legal_left : IsLegal opening (l ∷ without_it later)
      legal_left = subst (IsLegal opening) stays legal_without

      by_right : IsRight opening (without_it later) l → answer_in s x made ≡ answer_in u x made
      by_right (inl same) = held_by s u x made (is_held x (account opening (without_it later)).stage)
          (ap (λ (z : Entry). z.answer) same)
      by_right (inr lack) = let no : false ≡ true = lack.0 in cc

      live_same : live_with ≡ live_without
      live_same = leaves_alike s u x made (states_stay_in_use opening (with_it later) used legal_with).sound
          (states_stay_in_use opening (without_it later) used legal_left.1).sound
          (live_read (replay m (marked_entries opening (with_it later)))
          (replay m (marked_entries opening (without_it later))) x (b.lives x away)) (by_right legal_left.0)

      alike_off : IsAlike (l ∷ later)
      alike_off = record {
        front = entry (step x made live_with) kept ∷ b.front;
        left = entry (step x made live_without) kept ∷ b.left;
        with_is = fact.entries (with_it later) ∙ ap (λ ls. entry (step x made live_with) kept ∷ ls) b.with_is;
        without_is = ap (marked_entries opening) stays ∙ fact.entries (without_it later)
            ∙ ap (λ ls. entry (step x made live_without) kept ∷ ls) b.without_is;
        same = λ o. (λ j. replay o
            (struck_if (away j) (undone_with n) (entry (step x made live_with) kept)
            ∷ struck_steps xs (undone_with n) b.front))
            ∙ (λ j. store_with (effect_of_act (step x made (live_same j))) (b.same o j));
        others = b.others;
        count = subst (λ (j : Journal). n ≤ j.count) (sym (fact.journal (with_it later))) b.count;
        lives = λ y off. (λ j. read (replay m (fact.entries (with_it later) j)) (at_subchannel y))
            ∙ alike m (at_subchannel y) (entry (step x made live_with) kept) (entry (step x made live_without) kept)
            (marked_entries opening (with_it later))
            (marked_entries opening (without_it later))
            (ap (λ z. written (effect_of_act (step x made z)) (at_subchannel y)) live_same) (b.lives y off)
            ∙ (λ j. read (replay m (sym (fact.entries (without_it later)) j)) (at_subchannel y))
            ∙ ap (λ k. read (replay m (marked_entries opening k)) (at_subchannel y)) (sym stays);
      }

    alike_step : IsLegal opening (without_it (l ∷ later)) → IsAlike (l ∷ later)
    alike_step legal_without = by (is_among x xs) refl
      where
        by : (here : Bool) → is_among x xs ≡ here → IsAlike (l ∷ later)
        by true is = alike_on is
        by false is = alike_off is legal_without

  -- ---- a later change

  module _ (l : Entry) (k : ℕ) (later : History) (is_k : l.answer ≡ answers.Changed k)
      (legal_with : IsLegal opening (with_it (l ∷ later))) (b : IsAlike later)
      (legal_without : IsLegal opening (without_it (l ∷ later))) where
    abbrev first : Entry
    first = with_one_less l

    stays_too : without_it (l ∷ later) ≡ first ∷ without_it later
    stays_too = left_as l later true
        (or_right (is_done l.call l.answer && not (is_at xs l.call)) (is_for_a_change l.answer)
        (ap is_for_a_change is_k))

    legal_first : IsLegal opening (first ∷ without_it later)
    legal_first = subst (IsLegal opening) stays_too legal_without

    here : HasAccepted opening (with_it later) l k
    here = has_accepted opening (with_it later) used legal_with.1 l legal_with.0 k is_k

    there : HasAccepted opening (without_it later) first (k - 1)
    there = has_accepted opening (without_it later) used legal_first.1 first legal_first.0 (k - 1) (ap one_less is_k)

    effects : effect_of_change here.change ≡ effect_of_change there.change
    effects = sym here.effect ∙ there.effect

    alike_later : IsAlike (l ∷ later)
    alike_later = record {
      front = made k here.change ∷ b.front;
      left = made (k - 1) there.change ∷ b.left;
      with_is = ap (λ (a : Account). a.entries) here.entries ∙ ap (λ ls. made k here.change ∷ ls) b.with_is;
      without_is = ap (marked_entries opening) stays_too ∙ ap (λ (a : Account). a.entries) there.entries
          ∙ ap (λ ls. made (k - 1) there.change ∷ ls) b.without_is;
      same = λ o. (λ j. store_with (effects j) (b.same o j));
      others = or_from (eqb n k) _ (ne_eqb n k (λ same. let low = b.count in let next = here.number in omega arith))
          b.others;
      count = subst (λ a. n ≤ (journal_after a (journal_of (with_it later))).count) (sym is_k)
          (let low = b.count in let next = here.number in omega arith);
      lives = λ y off. ap (λ (a : Account). read (replay m a.entries) (at_subchannel y)) here.entries
          ∙ alike m (at_subchannel y) (made k here.change) (made (k - 1) there.change)
          (marked_entries opening (with_it later)) (marked_entries opening (without_it later))
          (ap (λ f. written f (at_subchannel y)) effects) (b.lives y off)
          ∙ ap (λ (a : Account). read (replay m a.entries) (at_subchannel y)) (sym there.entries)
          ∙ ap (λ g. read (replay m (marked_entries opening g)) (at_subchannel y)) (sym stays_too);
    }

  -- ---- along what came since

  legal_rest : (l : Entry) (later : History) → IsLegal opening (without_it (l ∷ later))
      → IsLegal opening (without_it later)
  legal_rest l later legal = by (is_left xs l) (subst (IsLegal opening) (left_as l later (is_left xs l) refl) legal)
    where
      by : (d : Bool) → IsLegal opening (cond d (with_one_less l ∷ without_it later) (without_it later))
          → IsLegal opening (without_it later)
      by true legal = legal.1
      by false legal = legal

  along : (later : History) → IsLegal opening (with_it later) → IsLegal opening (without_it later)
      → list_any (λ (l : Entry). goes_back_or_forth l.answer) later ≡ false → IsAlike later
  along [] legal left forward = alike_change
  along (l ∷ later) legal left forward =
      let both = or_parts (goes_back_or_forth l.answer) _ forward in
      by both.0 (along later legal.1 (legal_rest l later left) both.1) (comes opening (with_it later) l legal.0)
    where
      by : goes_back_or_forth l.answer ≡ false → IsAlike later → Comes opening (with_it later) l → IsAlike (l ∷ later)
      by other b (idles idle) = alike_idle l later idle b
      by other b (steps x made is) =
          subst (λ k. IsLegal opening (without_it (k ∷ later)) → IsAlike (k ∷ later)) (sym is)
          (alike_step x made later legal.1 b) left
      by other b (changes k is none) = alike_later l k later is legal b left
      by other b (undoes k is) = let back = ap (λ (z : Entry). goes_back_or_forth z.answer) is in
          let no : false ≡ true = sym other ∙ back in cc
      by other b (redoes k is) = let forth = ap (λ (z : Entry). goes_back_or_forth z.answer) is in
          let no : false ≡ true = sym other ∙ forth in cc

  -- ---- the undo

  module _ (later : History) (b : IsAlike later) where
    abbrev ls : List MarkedEntry
    ls = b.front ++ made n c ∷ base

    whole : (front : List MarkedEntry) → front ++ [] ≡ front
    whole [] = refl
    whole (l ∷ front) = ap (λ ls. l ∷ ls) (whole front)

    before_is : before n ls ≡ base
    before_is = before_past n c base b.front b.others

    since_is : since n ls ≡ b.front
    since_is = since_past n (made n c ∷ base) b.front b.others ∙ ap (λ ms. b.front ++ ms) (since_here n c base)
        ∙ whole b.front

    altered_is : altered_by_change n ls ≡ xs
    altered_is = ap altered_if (change_past n (made n c ∷ base) b.front b.others ∙ change_here n c base) ∙ sym xs_is

    undone_entries : marked_entries opening (undo_entry n ∷ with_it later)
        ≡ entry (undoing n) kept ∷ without_change n (marked_entries opening (with_it later))
    unfolding account
    undone_entries = refl

    leads : state_at opening (undo_entry n ∷ with_it later) ≡ state_at opening (without_it later)
    leads = ap state_of (ap (replay m) undone_entries
        ∙ inert_replay m (entry (undoing n) kept) (without_change n (marked_entries opening (with_it later)))
        (undoing_inert n)
        ∙ ap (λ ms. replay m (without_change n ms)) b.with_is
        ∙ undo_leaves_the_run_without m n ls
        ∙ (λ j. replay (replay m (before_is j)) (struck_steps (altered_is j) (undone_with n) (since_is j)))
        ∙ b.same (replay m base) ∙ sym (replay_append m b.left base) ∙ ap (replay m) (sym b.without_is))

pub legal_runs_without_lead_there : LegalRunsWithoutLeadThere
legal_runs_without_lead_there opening h since e n r legal =
    let legal_e : IsLegal opening (e ∷ h) = legal_before opening since (e ∷ h) r.legal.1 in
    let accepted = has_accepted opening h r.used legal_e.1 e legal_e.0 n r.accepted in
    leads opening h e n r.used legal_e r.accepted accepted since
    (along opening h e n r.used legal_e r.accepted accepted since r.legal.1 legal r.forward)

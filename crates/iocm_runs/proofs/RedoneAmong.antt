-- The run without an undo and its redo is a run, also where other changes were undone and redone
-- between.
use Rattle.std.proofs.Common.{◌≡◌, ◌≢◌, ◌⊎◌, inl, inr, ℕ, Bool, true, false, cond, ◌&&◌, ◌||◌, eqb, length, List, []}
use Rattle.std.proofs.Common.{◌∷◌, ◌++◌, drop, Option, None, refl, sym, ap, subst, ◌∙◌, arith}
use Rattle.std.proofs.lemmas.Bool.{or_parts, or_left, eq-eqb, ne_eqb}
use Rattle.std.specs.List.{list_any}
use Rattle.std.specs.Option.{option_zip}
use Rattle.std.specs.FinMap.{get}
use Rattle.iocm_types.specs.declared.answer.Answer.TheVariants.{Undone, Redone}
use Rattle.iocm_types.specs.declared.answer.Answer.TheVariants as answers
use Rattle.iocm_types.specs.declared.live.Live.{Live}
use Rattle.iocm_types.specs.declared.sub_id.SubId.{SubId}
use Rattle.iocm_model.specs.Operation.State.{State, is_among, seen_in}
use Rattle.iocm_model.specs.Operation.Step.{Step, order, device_begin, device_end, subchannel_in, step_answer}
use Rattle.iocm_model.specs.Operation.Step.{after_step, answer_in}
use Rattle.iocm_history.specs.Entry.{at, Entry, History, plain_entry}
use Rattle.iocm_history.specs.Store.{Store, store_of, state_of, store_with}
use Rattle.iocm_history.specs.Change.{altered}
use Rattle.iocm_history.specs.MarkedEntry.{step, undoing, nothing, kept, MarkedEntry, effect_of_act, effect_of_entry}
use Rattle.iocm_history.specs.MarkedEntry.{altered_if, altered_by_change, without_change, with_change}
use Rattle.iocm_history.specs.Stage.{is_held}
use Rattle.iocm_history.specs.Account.{replay, Account, account, marked_entries, state_at}
use Rattle.iocm_history.specs.StandsOn.{is_kept}
use Rattle.iocm_history.specs.Journal.{Journal, is_in, without, journal_after, journal_of}
use Rattle.iocm_history.specs.Legal.{unless_held, IsRight, IsLegal}
use Rattle.iocm_history.specs.InUse.{IsInUse}
use Rattle.iocm_history.specs.StageLaws.{is_done}
use Rattle.iocm_history.specs.UndoLaws.{undo_entry}
use Rattle.iocm_history.specs.RedoLaws.{redo_entry, undoes_or_redoes, IsRedone}
use Rattle.iocm_history.proofs.OneCell.{Cell, at_subchannel, read, written, none_written, same_store, live_read}
use Rattle.iocm_history.proofs.OneCell.{altered_cells}
use Rattle.iocm_history.proofs.Remarked.{change_strike}
use Rattle.iocm_history.proofs.Striking.{entry, skipped}
use Rattle.iocm_history.proofs.Apart.{stays_without}
use Rattle.iocm_history.proofs.Numbers.{first_or_rest, in_without}
use Rattle.iocm_history.proofs.Standing.{IsStanding, standing_change}
use Rattle.iocm_history.proofs.Undone.{AreUndone, inert_replay, undoing_inert, redone_is}
use Rattle.iocm_history.proofs.Settled.{IsSettled, nothing_inert, struck_is, without_first}
use Rattle.iocm_history.proofs.Settled as settling
use Rattle.iocm_history.proofs.Along.{settled}
use Rattle.iocm_history.proofs.EachCall.{states_stay_in_use}
use Rattle.iocm_history.proofs.Undoing.{MayBeUndone, may_be_undone}
use Rattle.iocm_history.proofs.Redoing.{legal_before}
use Rattle.iocm_runs.specs.RedoAnswers.{WasUndoneLast, RedoAnswered, staged, not_undone, past, not_last, waits, redone}
use Rattle.iocm_runs.specs.RedoAnswers.{lacks_memory}
use Rattle.iocm_runs.specs.RedoneAmong.{steps_that_count, run_that_counts, IsRunThatCounts, RunsThatCountAreRuns}
use Rattle.iocm_runs.proofs.Answered.{leaves_alike}
use Rattle.iocm_runs.proofs.BackAgain.{redone_all, is_off_all, AreSame, inert_same, plain_front, mark_by, step_in_front}
use Rattle.iocm_runs.proofs.BackAgain.{step_same, IsAsBefore, as_before}
use Rattle.iocm_runs.proofs.Coming.{IsIdle, Comes, idles, steps, changes, undoes, redoes, comes}
use Rattle.iocm_runs.proofs.RedoAnswers as answering

-- ---- lists

replay_append : (m : Store) (new ls : List MarkedEntry) → replay m (new ++ ls) ≡ replay (replay m ls) new
replay_append m [] ls = refl
replay_append m (l ∷ new) ls = ap (store_with (effect_of_entry l)) (replay_append m new ls)

skip : (m : Store) (l : MarkedEntry) (ls : List MarkedEntry) → ((q : Cell) → written (effect_of_entry l) q ≡ None)
    → replay m (l ∷ ls) ≡ replay m ls
skip m l ls none = same_store _ _ (λ q. skipped m q l ls (none q))

in_first : (j : ℕ) (us vs : List ℕ) → is_in j us ≡ true → is_in j (us ++ vs) ≡ true
in_first j [] vs among = cc
in_first j (u ∷ us) vs among = by (eqb j u) among (λ more. in_first j us vs more)
  where
    by : (b : Bool) → (b || is_in j us) ≡ true → (is_in j us ≡ true → is_in j (us ++ vs) ≡ true)
        → (b || is_in j (us ++ vs)) ≡ true
    by true among more = refl
    by false among more = more among

drop_none : (ls : List MarkedEntry) → drop 0 ls ≡ ls
drop_none [] = refl
drop_none (l ∷ ls) = refl

count_front : (h : History) (front rest : List MarkedEntry) → length front ≡ length h
    → steps_that_count h (front ++ rest) ≡ steps_that_count h front
count_front [] front rest long = refl
count_front (e ∷ h) [] rest long = absurd (omega arith)
count_front (e ∷ h) (l ∷ front) rest long =
    ap (λ k. cond (is_done e.call e.answer && is_kept l.mark) (e ∷ k) k) (count_front h front rest (omega arith))

-- ---- the last one undone

redone_last : (opening : State) (h : History) (j : ℕ) → IsInUse opening → IsLegal opening (redo_entry j ∷ h)
    → WasUndoneLast j (journal_of h)
redone_last opening h j used legal = by (answering.redo_is_answered_in_order opening h j (redo_entry j) used legal refl)
  where
    by : RedoAnswered opening h j (redo_entry j) → WasUndoneLast j (journal_of h)
    by (staged some answer) = cc
    by (not_undone idle never answer) = cc
    by (past idle gone answer) = cc
    by (not_last idle among other answer) = cc
    by (waits idle last x wait answer) = cc
    by (redone idle last quiet answer) = last
    by (lacks_memory idle last quiet answer) = cc

-- ---- an undo

module _ (opening : State) (h : History) (j : ℕ) (used : IsInUse opening)
    (legal : IsLegal opening (undo_entry j ∷ h)) where
  abbrev m : Store
  m = store_of opening

  abbrev a : Account
  a = account opening h

  abbrev i : IsSettled m (journal_of h) a
  i = settled opening h used legal.1

  abbrev may : MayBeUndone (state_at opening h) (journal_of h) a j
  may = may_be_undone opening h j legal.0

  abbrev stood : IsStanding m j a.entries
  stood = i.level.standing j may.here

  abbrev after : List MarkedEntry
  after = entry (undoing j) kept ∷ without_change j a.entries

  pub undo_entries : marked_entries opening (undo_entry j ∷ h) ≡ after
  unfolding account
  undo_entries = refl

  -- its redo brings all back
  pub comes_back : with_change j after ≡ entry (undoing j) kept ∷ a.entries
  comes_back = (λ k. with_change j (entry (undoing j) kept ∷ struck_is m (journal_of h) a i j may.here may.none k))
      ∙ redone_is m a.entries (journal_of h).standing i.level j may.here

  altered_is : altered_by_change j after ≡ altered stood.change
  altered_is = ap altered_if
      (change_strike (altered_by_change j a.entries) j j a.entries ∙ standing_change m j a.entries stood)

  -- and leaves live records elsewhere
  pub same_off : (y : SubId) → is_among y (altered_by_change j after) ≡ false
      → read (replay m (with_change j after)) (at_subchannel y) ≡ read (replay m after) (at_subchannel y)
  same_off y off =
      let q : Cell = at_subchannel y in
      (λ k. read (replay m (comes_back k)) q) ∙ skipped m q (entry (undoing j) kept) a.entries (none_written q)
      ∙ sym (stays_without m j stood.change a.entries (standing_change m j a.entries stood) q
      (sym (altered_cells stood.change y) ∙ ap (is_among y) (sym altered_is) ∙ off))
      ∙ (λ k. read (replay m (sym (struck_is m (journal_of h) a i j may.here may.none) k)) q)
      ∙ sym (skipped m q (entry (undoing j) kept) (without_change j a.entries) (none_written q))

  pub was_idle : a.stage ≡ None
  was_idle = may.idle

  pub new_undone : is_in j (journal_of h).undone ≡ false
  new_undone = settling.not_undone m j (journal_of h).undone a.entries (journal_of h).standing may.here i.chain

-- ---- along what came between

module _ (opening : State) (h : History) (n : ℕ) (used : IsInUse opening)
    (legal_undo : IsLegal opening (undo_entry n ∷ h)) where
  abbrev o : Store
  o = store_of opening

  abbrev early : List MarkedEntry
  early = marked_entries opening h

  abbrev now : History → History
  now between = between ++ undo_entry n ∷ h

  -- once the changes undone since are redone in turn, and the change then, what came is in front of
  -- the entries before the undo; the steps of it that count are a run on these, and play the same
  record IsAmong (between : History) (undone : List ℕ) (ls : List MarkedEntry) : Type 0 where
    later : List ℕ
    earlier : List ℕ
    undone_is : undone ≡ (later ++ n ∷ []) ++ earlier
    others : is_in n later ≡ false
    front : List MarkedEntry
    is : redone_all (later ++ n ∷ []) ls ≡ front ++ entry (undoing n) kept ∷ early
    long : length front ≡ length between
    same : AreSame o (later ++ n ∷ []) ls
    legal : IsLegal opening (steps_that_count between front ++ h)
    idle : (account opening (steps_that_count between front ++ h)).stage ≡ None
    left : List MarkedEntry
    left_is : marked_entries opening (steps_that_count between front ++ h) ≡ left ++ early
    plays : (p : Store) → replay p front ≡ replay p left

  abbrev AmongNow : History → Type 0
  AmongNow between = IsAmong between (journal_of (now between)).undone (marked_entries opening (now between))

  among_undo : AmongNow []
  unfolding account
  among_undo = record {
    later = [];
    earlier = (journal_of h).undone;
    undone_is = refl;
    others = refl;
    front = [];
    is = comes_back opening h n used legal_undo;
    long = refl;
    same = (same_off opening h n used legal_undo, tt);
    legal = legal_undo.1;
    idle = was_idle opening h n used legal_undo;
    left = [];
    left_is = refl;
    plays = λ p. refl;
  }

  -- an entry that is no step, in front of all that is as it was
  module _ (e : Entry) (between : History) (k : MarkedEntry)
      (inert : (p : Store) (ls : List MarkedEntry) → replay p (k ∷ ls) ≡ replay p ls)
      (undone : is_done e.call e.answer ≡ false) where
    out : (front : List MarkedEntry) → steps_that_count (e ∷ between) (k ∷ front) ≡ steps_that_count between front
    out front = ap (λ b. cond (b && is_kept k.mark) (e ∷ steps_that_count between front)
        (steps_that_count between front)) undone

    among_more : (us vs : List ℕ) (ls ks : List MarkedEntry) (b : IsAmong between us ls) (later earlier : List ℕ)
        → vs ≡ (later ++ n ∷ []) ++ earlier
        → is_in n later ≡ false → redone_all (later ++ n ∷ []) ks ≡ k ∷ redone_all (b.later ++ n ∷ []) ls
        → AreSame o (later ++ n ∷ []) ks
        → IsAmong (e ∷ between) vs ks
    among_more us vs ls ks b later earlier undone_is others is same = record {
      later = later;
      earlier = earlier;
      undone_is = undone_is;
      others = others;
      front = k ∷ b.front;
      is = is ∙ ap (λ ms. k ∷ ms) b.is;
      long = let long = b.long in omega arith;
      same = same;
      legal = subst (λ g. IsLegal opening (g ++ h)) (sym (out b.front)) b.legal;
      idle = ap (λ g. (account opening (g ++ h)).stage) (out b.front) ∙ b.idle;
      left = b.left;
      left_is = ap (λ g. marked_entries opening (g ++ h)) (out b.front) ∙ b.left_is;
      plays = λ p. inert p b.front ∙ b.plays p;
    }

  -- ---- an entry that does nothing

  among_idle : (e : Entry) (between : History) → IsIdle e → AmongNow between → AmongNow (e ∷ between)
  among_idle e between idle b =
      let us = b.later ++ n ∷ [] in let ls = marked_entries opening (now between) in
      subst (λ (j : Journal). IsAmong (e ∷ between) j.undone (marked_entries opening (now (e ∷ between))))
      (sym (idle.journal (now between)))
      (subst (IsAmong (e ∷ between) (journal_of (now between)).undone) (sym (idle.entries opening (now between)))
      (among_more e between (entry nothing kept) (λ p ms. inert_replay p (entry nothing kept) ms nothing_inert)
      idle.undone (journal_of (now between)).undone
      (journal_of (now between)).undone ls (entry nothing kept ∷ ls) b b.later b.earlier b.undone_is b.others
      (plain_front us (entry nothing kept) ls nothing_inert (λ xs. refl) (λ u among. refl))
      (inert_same o us (entry nothing kept) ls nothing_inert (λ u among. refl) b.same)))

  -- ---- the undo of another change

  among_undone : (j : ℕ) (between : History) → n ≢ j → IsLegal opening (undo_entry j ∷ now between) → AmongNow between
      → AmongNow (undo_entry j ∷ between)
  among_undone j between other legal b =
      let us = b.later ++ n ∷ [] in let ls = marked_entries opening (now between) in
      let back = comes_back opening (now between) j used legal in
      subst (IsAmong (undo_entry j ∷ between) (j ∷ (journal_of (now between)).undone))
      (sym (undo_entries opening (now between) j used legal))
      (among_more (undo_entry j) between (entry (undoing j) kept)
      (λ p ms. inert_replay p (entry (undoing j) kept) ms (undoing_inert j)) refl
      (journal_of (now between)).undone (j ∷ (journal_of (now between)).undone) ls
      (entry (undoing j) kept ∷ without_change j ls) b (j ∷ b.later) b.earlier
      (ap (λ vs. j ∷ vs) b.undone_is) (another b.later b.others)
      (ap (redone_all us) back
      ∙ plain_front us (entry (undoing j) kept) ls (undoing_inert j) (λ xs. refl) (not_it us b.earlier b.undone_is)) (
        same_off opening (now between) j used legal,
        subst (AreSame o us) (sym back)
            (inert_same o us (entry (undoing j) kept) ls (undoing_inert j) (not_it us b.earlier b.undone_is) b.same),
      ))
    where
      another : (later : List ℕ) → is_in n later ≡ false → is_in n (j ∷ later) ≡ false
      another later none = ap (λ c. c || is_in n later) (ne_eqb n j other) ∙ none

      not_it : (us rest : List ℕ) → (journal_of (now between)).undone ≡ us ++ rest → (u : ℕ) → is_in u us ≡ true
          → eqb u j ≡ false
      not_it us rest is u among = ne_eqb u j (λ same.
          let there : is_in j (us ++ rest) ≡ true = in_first j us rest (ap (λ w. is_in w us) (sym same) ∙ among) in
          let no : true ≡ false = sym there ∙ ap (is_in j) (sym is) ∙ new_undone opening (now between) j used legal in
          cc)

  -- ---- the redo of another change

  redo_entries : (g : History) (j : ℕ)
      → marked_entries opening (redo_entry j ∷ g) ≡ entry nothing kept ∷ with_change j (marked_entries opening g)
  unfolding account
  redo_entries g j = refl

  without_last : (g : History) (j : ℕ) (us : List ℕ) → IsLegal opening g → (journal_of g).undone ≡ j ∷ us
      → without j (journal_of g).undone ≡ us
  without_last g j us legal is =
      let i = settled opening g used legal in
      let chain = subst (AreUndone o (marked_entries opening g) (journal_of g).standing) is i.chain in
      ap (without j) is ∙ without_first j us
      (settling.not_undone o j us (with_change j (marked_entries opening g)) (j ∷ (journal_of g).standing)
      (or_left (eqb j j) _ (eq-eqb j j refl)) chain.1)

  among_redone : (j : ℕ) (between : History) → n ≢ j → IsLegal opening (redo_entry j ∷ now between) → AmongNow between
      → AmongNow (redo_entry j ∷ between)
  among_redone j between other legal b = by b.later refl
    where
      ls : List MarkedEntry
      ls = marked_entries opening (now between)

      last : WasUndoneLast j (journal_of (now between))
      last = redone_last opening (now between) j used legal

      first_of : {u v : ℕ} {us vs : List ℕ} → u ∷ us ≡ v ∷ vs → u ≡ v
      first_of e = cc

      more_of : {u v : ℕ} {us vs : List ℕ} → u ∷ us ≡ v ∷ vs → us ≡ vs
      more_of e = cc

      by : (later : List ℕ) → b.later ≡ later → AmongNow (redo_entry j ∷ between)
      by [] is =
          let all : j ∷ last.0 ≡ n ∷ b.earlier = sym last.1 ∙ b.undone_is ∙ ap (λ vs. (vs ++ n ∷ []) ++ b.earlier) is in
          absurd (other (sym (first_of all)))
      by (v ∷ vs) is =
          let all : j ∷ last.0 ≡ v ∷ ((vs ++ n ∷ []) ++ b.earlier) =
          sym last.1 ∙ b.undone_is ∙ ap (λ ws. (ws ++ n ∷ []) ++ b.earlier) is in
          let rest = more_of all in
          let us = vs ++ n ∷ [] in
          let same_there : AreSame o us (with_change v ls) = (subst (λ ws. AreSame o (ws ++ n ∷ []) ls) is b.same).1 in
          subst (λ ws. IsAmong (redo_entry j ∷ between) ws (marked_entries opening (redo_entry j ∷ now between)))
          (sym (without_last (now between) j last.0 legal.1 last.1))
          (subst (IsAmong (redo_entry j ∷ between) last.0) (sym (redo_entries (now between) j))
          (among_more (redo_entry j) between (entry nothing kept)
          (λ p ms. inert_replay p (entry nothing kept) ms nothing_inert) refl (journal_of (now between)).undone
          last.0 ls
          (entry nothing kept ∷ with_change j ls) b vs b.earlier rest
          (or_parts (eqb n v) (is_in n vs) (ap (is_in n) (sym is) ∙ b.others)).1
          (ap (λ w. redone_all us (entry nothing kept ∷ with_change w ls)) (first_of all)
          ∙ plain_front us (entry nothing kept) (with_change v ls) nothing_inert (λ xs. refl) (λ u among. refl)
          ∙ ap (λ ws. entry nothing kept ∷ redone_all (ws ++ n ∷ []) ls) (sym is))
          (inert_same o us (entry nothing kept) (with_change j ls) nothing_inert (λ u among. refl)
          (subst (λ w. AreSame o us (with_change w ls)) (sym (first_of all)) same_there))))

  -- ---- a step

  record IsStep (x : SubId) (made : Step) (l : Entry) : Type 0 where
    entries : (g : History) → marked_entries opening (l ∷ g)
        ≡ entry (step x made (get (after_step x made (state_at opening g)).lives x)) kept ∷ marked_entries opening g
    journal : (g : History) → journal_of (l ∷ g) ≡ journal_of g
    stage : (g : History) → (account opening (l ∷ g)).stage ≡ (account opening g).stage
    done : is_done l.call l.answer ≡ true

  is_step : (x : SubId) (made : Step) (s : State) → IsStep x made (plain_entry (at x made) (answer_in s x made))
  unfolding account
  is_step x (order p) s = record { entries = λ g. refl; journal = λ g. refl; stage = λ g. refl; done = refl }
  is_step x device_begin s = record { entries = λ g. refl; journal = λ g. refl; stage = λ g. refl; done = refl }
  is_step x device_end s = record { entries = λ g. refl; journal = λ g. refl; stage = λ g. refl; done = refl }

  module _ (x : SubId) (made : Step) (between : History) (legal_now : IsLegal opening (now between))
      (b : AmongNow between) where
    abbrev ls : List MarkedEntry
    ls = marked_entries opening (now between)

    abbrev us : List ℕ
    us = b.later ++ n ∷ []

    abbrev run : History
    run = steps_that_count between b.front ++ h

    abbrev s : State
    s = state_at opening (now between)

    abbrev u : State
    u = state_at opening run

    abbrev l : Entry
    l = plain_entry (at x made) (answer_in s x made)

    fact : IsStep x made l
    fact = is_step x made s

    abbrev live_with : Option Live
    live_with = get (after_step x made s).lives x

    abbrev live_without : Option Live
    live_without = get (after_step x made u).lives x

    -- the run comes to what comes once all are redone
    run_is : replay o (redone_all us ls) ≡ replay o (marked_entries opening run)
    run_is = ap (replay o) b.is ∙ replay_append o b.front (entry (undoing n) kept ∷ early)
        ∙ (λ k. replay (inert_replay o (entry (undoing n) kept) early (undoing_inert n) k) b.front)
        ∙ b.plays (replay o early)
        ∙ sym (replay_append o b.left early) ∙ ap (replay o) (sym b.left_is)

    abbrev l_with : Bool → MarkedEntry
    l_with d = entry (step x made live_with) (mark_by d)

    -- what the step is, by whether it counts in the end
    among_by : (d : Bool) (run_more : History) → is_off_all x us ls ≡ d
        → steps_that_count (l ∷ between) (l_with d ∷ b.front) ++ h ≡ run_more
        → IsLegal opening run_more → (account opening run_more).stage ≡ None → (left : List MarkedEntry)
        → marked_entries opening run_more ≡ left ++ early
        → ((p : Store) → replay p (l_with d ∷ b.front) ≡ replay p left) → AmongNow (l ∷ between)
    among_by d run_more off run_eq legal idle left left_is plays =
        subst (λ (j : Journal). IsAmong (l ∷ between) j.undone (marked_entries opening (now (l ∷ between))))
        (sym (fact.journal (now between)))
        (subst (IsAmong (l ∷ between) (journal_of (now between)).undone) (sym (fact.entries (now between))) (record {
          later = b.later;
          earlier = b.earlier;
          undone_is = b.undone_is;
          others = b.others;
          front = l_with d ∷ b.front;
          is = step_in_front us x made live_with ls ∙ (λ k. entry (step x made live_with) (mark_by (off k)) ∷ b.is k);
          long = let long = b.long in omega arith;
          same = step_same o us x made live_with ls b.same;
          legal = subst (IsLegal opening) (sym run_eq) legal;
          idle = ap (λ g. (account opening g).stage) run_eq ∙ idle;
          left = left;
          left_is = ap (marked_entries opening) run_eq ∙ left_is;
          plays = plays;
        }))

    count_by : (d : Bool) → steps_that_count (l ∷ between) (l_with d ∷ b.front) ++ h ≡ cond d (l ∷ run) run
    count_by d = ap (λ c. cond (c && is_kept (mark_by d)) (l ∷ steps_that_count between b.front)
        (steps_that_count between b.front) ++ h) fact.done ∙ by d
      where
        by : (d : Bool) → cond (true && is_kept (mark_by d)) (l ∷ steps_that_count between b.front)
            (steps_that_count between b.front) ++ h ≡ cond d (l ∷ run) run
        by true = refl
        by false = refl

    among_struck : is_off_all x us ls ≡ false → AmongNow (l ∷ between)
    among_struck on = among_by false run on (count_by false) b.legal b.idle b.left b.left_is
        (λ p. skip p (l_with false) b.front (λ q. none_written q) ∙ b.plays p)

    module _ (off : is_off_all x us ls ≡ true) where
      before : IsAsBefore o us ls x
      before = as_before o us b.earlier (journal_of (now between)).standing ls x
          (subst (AreUndone o ls (journal_of (now between)).standing) b.undone_is
          (settled opening (now between) used legal_now).chain) b.same off

      live_same : get s.lives x ≡ get u.lives x
      live_same = live_read (replay o ls) (replay o (marked_entries opening run)) x
          (sym before.live ∙ ap (λ z. read z (at_subchannel x)) run_is)

      there : subchannel_in s x ≡ subchannel_in u x
      there = λ k. option_zip ((sym before.seen ∙ ap (λ z. seen_in (state_of z) x) run_is) k) (live_same k)

      answer_same : answer_in s x made ≡ answer_in u x made
      answer_same = ap (step_answer made) there

      right_there : IsRight opening run l
      right_there = inl (ap (plain_entry (at x made)) answer_same
          ∙ ap (λ g. plain_entry (at x made) (unless_held (is_held x g) (answer_in u x made))) (sym b.idle))

      left_same : live_with ≡ live_without
      left_same = leaves_alike s u x made (states_stay_in_use opening (now between) used legal_now).sound
          (states_stay_in_use opening run used b.legal).sound live_same answer_same

      among_counted : AmongNow (l ∷ between)
      among_counted = among_by true (l ∷ run) off (count_by true) (right_there, b.legal) (fact.stage run ∙ b.idle)
          (entry (step x made live_without) kept ∷ b.left)
          (fact.entries run ∙ ap (λ ms. entry (step x made live_without) kept ∷ ms) b.left_is)
          (λ p. λ k. store_with (effect_of_act (step x made (left_same k))) (b.plays p k))

    among_step : AmongNow (l ∷ between)
    among_step = by (is_off_all x us ls) refl
      where
        by : (d : Bool) → is_off_all x us ls ≡ d → AmongNow (l ∷ between)
        by true off = among_counted off
        by false on = among_struck on

  -- ---- any entry

  apart : (j : ℕ) (e : Entry) → undoes_or_redoes n e.answer ≡ false → (e.answer ≡ Undone j) ⊎ (e.answer ≡ Redone j)
      → n ≢ j
  apart j e other (inl is) same = let here : eqb n j ≡ true = eq-eqb n j same in let no : true ≡ false =
      sym here ∙ sym (ap (undoes_or_redoes n) is) ∙ other in cc
  apart j e other (inr is) same = let here : eqb n j ≡ true = eq-eqb n j same in let no : true ≡ false =
      sym here ∙ sym (ap (undoes_or_redoes n) is) ∙ other in cc

  among : (between : History) → IsLegal opening (now between)
      → list_any (λ (e : Entry). undoes_or_redoes n e.answer) between ≡ false
      → is_in n (journal_of (now between)).undone ≡ true → AmongNow between
  among [] legal others here = among_undo
  among (e ∷ between) legal others here =
      let both = or_parts (undoes_or_redoes n e.answer) _ others in
      by (λ there. among between legal.1 both.1 there) both.0 (comes opening (now between) e legal.0)
    where
      by : (is_in n (journal_of (now between)).undone ≡ true → AmongNow between) → undoes_or_redoes n e.answer ≡ false
          → Comes opening (now between) e → AmongNow (e ∷ between)
      by more other (idles idle) =
          among_idle e between idle
          (more (ap (λ (j : Journal). is_in n j.undone) (sym (idle.journal (now between))) ∙ here))
      by more other (steps x made is) =
          subst (λ k. AmongNow (k ∷ between)) (sym is)
          (among_step x made between legal.1
          (more (ap (λ (j : Journal). is_in n j.undone)
          (sym ((is_step x made (state_at opening (now between))).journal (now between)))
          ∙ ap (λ k. is_in n (journal_of (k ∷ now between)).undone) (sym is) ∙ here)))
      by more other (changes k is none) =
          let none : is_in n (journal_after (answers.Changed k) (journal_of (now between))).undone ≡ true =
          ap (λ z. is_in n (journal_after z (journal_of (now between))).undone) (sym is) ∙ here in cc
      by more other (undoes j is) =
          let differs = apart j e other (inl (ap (λ (z : Entry). z.answer) is)) in
          let there : is_in n (j ∷ (journal_of (now between)).undone) ≡ true =
          ap (λ k. is_in n (journal_of (k ∷ now between)).undone) (sym is) ∙ here in
          subst (λ k. AmongNow (k ∷ between)) (sym is)
          (among_undone j between differs (subst (λ k. IsLegal opening (k ∷ now between)) is legal)
          (more (later (first_or_rest n j _ there) differs)))
        where
          later : (n ≡ j) ⊎ (is_in n (journal_of (now between)).undone ≡ true) → n ≢ j
              → is_in n (journal_of (now between)).undone ≡ true
          later (inl same) differs = absurd (differs same)
          later (inr among) differs = among
      by more other (redoes j is) =
          let differs = apart j e other (inr (ap (λ (z : Entry). z.answer) is)) in
          let there : is_in n (without j (journal_of (now between)).undone) ≡ true =
          ap (λ k. is_in n (journal_of (k ∷ now between)).undone) (sym is) ∙ here in
          subst (λ k. AmongNow (k ∷ between)) (sym is)
          (among_redone j between differs (subst (λ k. IsLegal opening (k ∷ now between)) is legal)
          (more (in_without j n _ there).0))

  -- ---- the redo

  module _ (between : History) (r : IsRedone opening h between n) where
    last : WasUndoneLast n (journal_of (now between))
    last = redone_last opening (now between) n used r.legal

    here : is_in n (journal_of (now between)).undone ≡ true
    here = ap (is_in n) last.1 ∙ or_left (eqb n n) _ (eq-eqb n n refl)

    b : AmongNow between
    b = among between r.legal.1 r.first here

    -- none is to be redone before it
    none_later : b.later ≡ []
    none_later = by b.later b.others (sym last.1 ∙ b.undone_is)
      where
        by : (later : List ℕ) → is_in n later ≡ false → n ∷ last.0 ≡ (later ++ n ∷ []) ++ b.earlier → later ≡ []
        by [] others is = refl
        by (v ∷ vs) others is =
            let same : n ≡ v = cc in let there : eqb n v ≡ true = eq-eqb n v same in
            let no : true ≡ false = sym there ∙ (or_parts (eqb n v) (is_in n vs) others).0 in cc

    with_it : with_change n (marked_entries opening (now between)) ≡ b.front ++ entry (undoing n) kept ∷ early
    with_it = ap (λ vs. redone_all (vs ++ n ∷ []) (marked_entries opening (now between))) (sym none_later) ∙ b.is

    run_eq : run_that_counts opening n between h ≡ steps_that_count between b.front ++ h
    run_eq = ap (λ ms. steps_that_count between ms ++ h)
        (ap (drop 1) (redo_entries (now between) n) ∙ drop_none (with_change n (marked_entries opening (now between)))
        ∙ with_it)
        ∙ ap (λ g. g ++ h) (count_front between b.front (entry (undoing n) kept ∷ early) b.long)

    pub both_gone : IsRunThatCounts opening h between n
    both_gone = record {
      legal = subst (IsLegal opening) (sym run_eq) b.legal;
      state = ap state_of (ap (replay o) (redo_entries (now between) n)
          ∙ inert_replay o (entry nothing kept) (with_change n (marked_entries opening (now between))) nothing_inert
          ∙ ap (replay o) with_it ∙ replay_append o b.front (entry (undoing n) kept ∷ early)
          ∙ (λ k. replay (inert_replay o (entry (undoing n) kept) early (undoing_inert n) k) b.front)
          ∙ b.plays (replay o early)
          ∙ sym (replay_append o b.left early) ∙ ap (replay o) (sym b.left_is))
          ∙ ap (state_at opening) (sym run_eq);
      since = entry nothing kept ∷ b.front ++ (entry (undoing n) kept ∷ []);
      marks = redo_entries (now between) n ∙ ap (λ ms. entry nothing kept ∷ ms) (with_it ∙ sym (joined b.front));
    }
      where
        joined : (front : List MarkedEntry)
            → (front ++ (entry (undoing n) kept ∷ [])) ++ early ≡ front ++ entry (undoing n) kept ∷ early
        joined [] = refl
        joined (l ∷ front) = ap (λ ms. l ∷ ms) (joined front)

pub runs_that_count_are_runs : RunsThatCountAreRuns
runs_that_count_are_runs opening h between n r =
    both_gone opening h n r.used (legal_before opening between (undo_entry n ∷ h) r.legal.1) between r

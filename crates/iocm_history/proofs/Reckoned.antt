-- When changes were last undone, and the laws on which changes stand on a change.
use Rattle.std.proofs.Common.{◌≡◌, ℕ, ◌+◌, ◌≤◌, nat_lt, nat_le, length, Bool, true, false, cond, not, ◌&&◌, ◌||◌, eqb}
use Rattle.std.proofs.Common.{List, [], ◌∷◌, ◌++◌, filter, refl, sym, ap, subst, ◌∙◌, arith, ⊎_elim, Some}
use Rattle.std.proofs.lemmas.Bool.{eqb-true, eqb-false, ltb-true, le-ltb, le-leb, lt-leb, cases_lt}
use Rattle.std.proofs.lemmas.List.Folds.{list_any-append}
use Rattle.std.proofs.lemmas.Map.Views.{any-filter_same}
use Rattle.iocm_types.specs.declared.answer.Answer.{Answer}
use Rattle.iocm_types.specs.declared.answer.Answer.TheVariants.{Undone, Redone}
use Rattle.iocm_types.specs.declared.answer.Answer.TheVariants as answers
use Rattle.iocm_model.specs.Operation.State.{State}
use Rattle.iocm_history.specs.Account.{Account, account, account_after, marked_entries}
use Rattle.iocm_history.specs.Change.{Change}
use Rattle.iocm_history.specs.Entry.{Entry, History}
use Rattle.iocm_history.specs.InUse.{IsInUse}
use Rattle.iocm_history.specs.Journal.{Journal, is_in, journal_after, journal_of}
use Rattle.iocm_history.specs.Legal.{IsLegal}
use Rattle.iocm_history.specs.MarkedEntry.{undoing, kept, MarkedEntry, is_change, altered_by_change, change_at}
use Rattle.iocm_history.specs.MarkedEntry.{without_change, with_change}
use Rattle.iocm_history.specs.StandsOn.{Numbered, since, changes_in, undo_and, undos_in, counts, undone_since}
use Rattle.iocm_history.specs.StandsOn.{numbers_of}
use Rattle.iocm_history.specs.Store.{Store, store_of}
use Rattle.iocm_history.proofs.Along.{IsEvent, idles, steps, changes, undoes, redoes, is_event, settled}
use Rattle.iocm_history.proofs.MarkLaws.{changes_count_while_they_stand}
use Rattle.iocm_history.proofs.Remarked.{AreRemarked, AnyMarks, any_struck, any_restored}
use Rattle.iocm_history.proofs.Settled.{state_now}
use Rattle.iocm_history.proofs.Striking.{made, entry}
use Rattle.iocm_history.specs.Reckoning.{undone_then, last_undone, shares}
use Rattle.iocm_history.specs.JournalLaws.{LaterStandOnIt, OthersStandOnIt}
use Rattle.iocm_history.proofs.Found.{only_these_are_there}
use Rattle.iocm_history.proofs.Numbered.{AreNumbered, numbered}
use Rattle.iocm_history.proofs.StandOn.{counts_there, shares_with, sharing, since_counts}

-- ---- the undos since a change

undos_if : (b : Bool) (l : MarkedEntry) (ls : List MarkedEntry)
    → undos_in (cond b [] (l ∷ ls)) ≡ cond b [] (undo_and l.act (undos_in ls))
undos_if true l ls = refl
undos_if false l ls = refl

-- other marks are no other undos
same_undos : (n : ℕ) (ls ms : List MarkedEntry) → AreRemarked AnyMarks ls ms
    → undos_in (since n ms) ≡ undos_in (since n ls)
unfolding AreRemarked
same_undos n [] [] r = refl
same_undos n [] (m ∷ ms) r = absurd r
same_undos n (l ∷ ls) [] r = absurd r
same_undos n (l ∷ ls) (m ∷ ms) r =
    undos_if (is_change n m.act) m (since n ms)
    ∙ (λ i. cond (is_change n (r.0 i)) [] (undo_and (r.0 i) (same_undos n ls ms r.2 i)))
    ∙ sym (undos_if (is_change n l.act) l (since n ls))

-- ---- answers that undo nothing

passes_by : (m count before : ℕ) (answer : Answer) → ((j : ℕ) → answer ≡ Undone j → ⊥)
    → undone_then m answer count before ≡ before
passes_by m count before (answers.Io io) other = refl
passes_by m count before (answers.Begun was) other = refl
passes_by m count before (answers.Ended was) other = refl
passes_by m count before answers.Held other = refl
passes_by m count before (answers.Changed n) other = refl
passes_by m count before (answers.Staged k) other = refl
passes_by m count before (answers.Left k) other = refl
passes_by m count before answers.Aborted other = refl
passes_by m count before (answers.Undone n) other = absurd (other n refl)
passes_by m count before (answers.Redone n) other = refl
passes_by m count before (answers.Shown counts) other = refl
passes_by m count before (answers.Refused why) other = refl

module _ (b : Journal) (answer : Answer) where
  -- one that leaves the journal
  idle_passes : journal_after answer b ≡ b → (j : ℕ) → answer ≡ Undone j → ⊥
  idle_passes same j is =
      let more : (j ∷ b.undone) ≡ b.undone =
      ap (λ (c : Journal). c.undone) (sym (ap (λ z. journal_after z b) is) ∙ same) in
      let long : length (j ∷ b.undone) ≡ length b.undone = ap length more in omega arith

  -- one that accepts a change
  change_passes : (c : Journal) → journal_after answer b ≡ c → c.count ≡ b.count + 1 → (j : ℕ) → answer ≡ Undone j → ⊥
  change_passes c same more j is =
      let stays : b.count ≡ c.count = ap (λ (d : Journal). d.count) (sym (ap (λ z. journal_after z b) is) ∙ same) in
      omega arith

  -- one that redoes
  redo_passes : (n : ℕ) → answer ≡ Redone n → (j : ℕ) → answer ≡ Undone j → ⊥
  redo_passes n same j is = let no : Redone n ≡ Undone j = sym same ∙ is in cc

-- ---- along a history

-- no change was undone when more were accepted than now; since a change those were undone that were
-- when it was accepted already
pub record IsReckoned (count : ℕ) (last : ℕ → ℕ) (ls : List MarkedEntry) : Type 0 where
  pub low : (m : ℕ) → last m ≤ count
  pub undos : (n m : ℕ) → 1 ≤ n → n ≤ count → is_in m (undos_in (since n ls)) ≡ nat_le n (last m)

module _ (count : ℕ) (last : ℕ → ℕ) (ls : List MarkedEntry) (o : IsReckoned count last ls) where
  -- an answer more that undoes nothing
  reckoned_same : (ms : List MarkedEntry) (later : ℕ → ℕ) → ((n : ℕ) → undos_in (since n ms) ≡ undos_in (since n ls))
      → ((m : ℕ) → later m ≡ last m)
      → IsReckoned count later ms
  reckoned_same ms later undos same = record {
    low = λ m. subst (λ z. z ≤ count) (sym (same m)) (o.low m);
    undos = λ n m low high. ap (is_in m) (undos n) ∙ o.undos n m low high ∙ ap (nat_le n) (sym (same m));
  }

  -- a change more
  reckoned_change : (c : Change) (later : ℕ → ℕ) → ((m : ℕ) → later m ≡ last m)
      → IsReckoned (count + 1) later (made (count + 1) c ∷ ls)
  reckoned_change c later same = record {
    low = λ m. let is = same m in let low = o.low m in omega arith;
    undos = λ n m low high. by (eqb n (count + 1)) n m refl low high ∙ ap (nat_le n) (sym (same m));
  }
    where
      by : (b : Bool) (n m : ℕ) → eqb n (count + 1) ≡ b → 1 ≤ n → n ≤ count + 1
          → is_in m (undos_in (cond b [] (made (count + 1) c ∷ since n ls))) ≡ nat_le n (last m)
      by true n m is low high =
          sym (lt-leb n (last m) (let same = eqb-true n (count + 1) is in let low = o.low m in omega arith))
      by false n m is low high = let other = eqb-false n (count + 1) is in o.undos n m low (below other)
        where
          below : (n ≡ count + 1 → ⊥) → n ≤ count
          below other = ⊎_elim (λ more. absurd (other (omega arith))) (λ low. low) (cases_lt count n)

  -- an undo more
  reckoned_undo : (k : ℕ) (ms : List MarkedEntry) (later : ℕ → ℕ)
      → ((n : ℕ) → undos_in (since n ms) ≡ undos_in (since n ls))
      → ((m : ℕ) → later m ≡ undone_then m (Undone k) count (last m))
      → IsReckoned count later (entry (undoing k) kept ∷ ms)
  reckoned_undo k ms later undos same = record {
    low = λ m. subst (λ z. z ≤ count) (sym (same m)) (most (eqb m k) m);
    undos = λ n m low high. ap (λ us. eqb m k || is_in m us) (undos n) ∙ ap (λ b. eqb m k || b) (o.undos n m low high)
        ∙ by (eqb m k) n m high ∙ ap (nat_le n) (sym (same m));
  }
    where
      most : (b : Bool) (m : ℕ) → cond b count (last m) ≤ count
      most true m = omega arith
      most false m = o.low m

      by : (b : Bool) (n m : ℕ) → n ≤ count → (b || nat_le n (last m)) ≡ nat_le n (cond b count (last m))
      by true n m high = sym (le-leb n count high)
      by false n m high = refl

module _ (m : Store) (b : Journal) (a : Account) (last : ℕ → ℕ) (o : IsReckoned b.count last a.entries) where
  abbrev later : Entry → ℕ → ℕ
  later e k = undone_then k e.answer b.count (last k)

  reckoned_as : (e : Entry) (c c2 : Journal) (d d2 : Account) → IsReckoned c.count (later e) d.entries → d2 ≡ d → c2 ≡ c
      → IsReckoned c2.count (later e) d2.entries
  reckoned_as e c c2 d d2 reckoned account_is journal_is =
      subst (λ (z : Journal). IsReckoned z.count (later e) d2.entries) (sym journal_is)
      (subst (λ (z : Account). IsReckoned c.count (later e) z.entries) (sym account_is) reckoned)

  next_reckoned : (e : Entry) → IsEvent m b a e
      → IsReckoned (journal_after e.answer b).count (later e) (account_after e.call e.answer (state_now m a) a).entries
  next_reckoned e (idles g staged account_is journal_is) =
      reckoned_as e b _ _ _ (reckoned_same b.count last a.entries o _ (later e) (λ n. refl)
      (λ k. passes_by k b.count (last k) e.answer (idle_passes b e.answer journal_is))) account_is journal_is
  next_reckoned e (steps x done off account_is journal_is) =
      reckoned_as e b _ _ _ (reckoned_same b.count last a.entries o _ (later e) (λ n. refl)
      (λ k. passes_by k b.count (last k) e.answer (idle_passes b e.answer journal_is))) account_is journal_is
  next_reckoned e (changes c g ready idle account_is journal_is) =
      reckoned_as e _ _ _ _ (reckoned_change b.count last a.entries o c (later e)
      (λ k. passes_by k b.count (last k) e.answer (change_passes b e.answer _ journal_is refl))) account_is journal_is
  next_reckoned e (undoes k here none idle answer account_is journal_is) =
      reckoned_as e _ _ _ _ (reckoned_undo b.count last a.entries o k (without_change k a.entries) (later e)
      (λ n. same_undos n a.entries (without_change k a.entries)
      (any_struck (altered_by_change k a.entries) k a.entries))
      (λ j. ap (λ z. undone_then j z b.count (last j)) answer)) account_is journal_is
  next_reckoned e (redoes k us undone idle answer account_is journal_is) =
      reckoned_as e _ _ _ _ (reckoned_same b.count last a.entries o _ (later e)
      (λ n. same_undos n a.entries (with_change k a.entries) (any_restored (altered_by_change k a.entries) k a.entries))
      (λ j. passes_by j b.count (last j) e.answer (redo_passes b e.answer k answer))) account_is journal_is

pub reckoned : (opening : State) (h : History) → IsInUse opening → IsLegal opening h
    → IsReckoned (journal_of h).count (λ m. last_undone m h) (marked_entries opening h)
unfolding account
reckoned opening [] used legal = record { low = λ m. omega arith; undos = λ n m low high. absurd (omega arith) }
reckoned opening (e ∷ h) used legal =
    let m = store_of opening in let b = journal_of h in let a = account opening h in
    next_reckoned m b a (λ k. last_undone k h) (reckoned opening h used legal.1) e
    (is_event m b a (settled opening h used legal.1) e legal.0)

-- ---- the laws

pub later_stand_on_it : LaterStandOnIt
later_stand_on_it opening h n m c used legal at =
    let ls = marked_entries opening h in let o = numbered opening h used legal in
    let bounds = only_these_are_there opening h n c used legal at in
    since_counts n m (shares_with c) ls o.down (let high = bounds.1 in let long = o.long in omega arith) bounds.0
    ∙ ap (λ b. nat_lt n m && b)
    (sharing m c ls o.down ∙ ap (λ b. b && shares c (change_at m ls))
    (changes_count_while_they_stand opening h m used legal))

filter_all : (ds : List Numbered) → filter (λ d. true) ds ≡ ds
filter_all [] = refl
filter_all (d ∷ ds) = ap (λ es. d ∷ es) (filter_all ds)

module _ (opening : State) (h : History) (n m : ℕ) (c : Change) (used : IsInUse opening) (legal : IsLegal opening h)
    (at : change_at n (marked_entries opening h) ≡ Some c) where
  abbrev ls : List MarkedEntry
  ls = marked_entries opening h

  abbrev stands : Bool
  stands = is_in m (journal_of h).standing

  o : AreNumbered (journal_of h).count ls
  o = numbered opening h used legal

  bounds : (1 ≤ n) × (n ≤ (journal_of h).count)
  bounds = only_these_are_there opening h n c used legal at

  later_ones : is_in m (numbers_of (changes_in (since n ls))) ≡ (nat_lt n m && stands)
  later_ones =
      ap (λ ds. is_in m (numbers_of ds)) (sym (filter_all (changes_in (since n ls))))
      ∙ since_counts n m (λ d. true) ls o.down (let high = bounds.1 in let long = o.long in omega arith) bounds.0
      ∙ ap (λ ds. nat_lt n m && is_in m (numbers_of ds)) (filter_all (changes_in ls))
      ∙ ap (λ b. nat_lt n m && b) (changes_count_while_they_stand opening h m used legal)

  earlier_ones : is_in m (undone_since n ls) ≡ ((nat_lt m n && not stands) && nat_le n (last_undone m h))
  earlier_ones =
      let test = λ (j : ℕ). nat_lt j n && not (counts j ls) in
      any-filter_same (eqb m) test (test m) (λ j same. ap test (sym (eqb-true m j same))) (undos_in (since n ls))
      ∙ (λ i. (nat_lt m n && not (counts_there m ls o.down i))
      && (reckoned opening h used legal).undos n m bounds.0 bounds.1 i)
      ∙ ap (λ b. (nat_lt m n && not b) && nat_le n (last_undone m h))
      (changes_count_while_they_stand opening h m used legal)

  one_or_other : (b d s l : Bool) → (b ≡ true → d ≡ false)
      → ((b && s) || ((d && not s) && l)) ≡ cond b s (d && (not s && l))
  one_or_other true true s l apart = let no : true ≡ false = apart refl in cc
  one_or_other true false true l apart = refl
  one_or_other true false false l apart = refl
  one_or_other false true s l apart = refl
  one_or_other false false s l apart = refl

  pub others_stand : is_in m (numbers_of (changes_in (since n ls)) ++ undone_since n ls)
      ≡ cond (nat_lt n m) stands (nat_lt m n && (not stands && nat_le n (last_undone m h)))
  others_stand =
      list_any-append (eqb m) (numbers_of (changes_in (since n ls))) (undone_since n ls)
      ∙ (λ i. later_ones i || earlier_ones i)
      ∙ one_or_other (nat_lt n m) (nat_lt m n) stands (nat_le n (last_undone m h))
      (λ more. le-ltb m n (let less = ltb-true n m more in omega arith))

pub others_stand_on_it : OthersStandOnIt
others_stand_on_it = others_stand

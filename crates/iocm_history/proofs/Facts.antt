-- What holds of the numbers that a journal keeps, of the changes that are there, and of what is
-- staged.
use Rattle.std.proofs.Common.{◌≡◌, ℕ, ◌+◌, ◌≤◌, length, Bool, true, false, cond, not, ◌||◌, eqb, List, [], ◌∷◌, Some}
use Rattle.std.proofs.Common.{refl, sym, ap, subst, ◌∙◌, arith, ◌⊎◌, inl, inr}
use Rattle.std.proofs.lemmas.Bool.{eq-eqb, eqb-true, or_left, false_from_ne_true}
use Rattle.iocm_model.specs.Operation.State.{State}
use Rattle.iocm_history.specs.Account.{Account, account, account_after, marked_entries}
use Rattle.iocm_history.specs.Change.{Change}
use Rattle.iocm_history.specs.Entry.{Entry, History}
use Rattle.iocm_history.specs.InUse.{IsInUse}
use Rattle.iocm_history.specs.Journal.{Journal, is_in, without, journal_after, journal_of}
use Rattle.iocm_history.specs.Legal.{IsLegal}
use Rattle.iocm_history.specs.MarkedEntry.{MarkedEntry, altered_by_change, change_at, with_change}
use Rattle.iocm_history.specs.Store.{Store, store_of}
use Rattle.iocm_history.proofs.Along.{IsEvent, idles, steps, changes, undoes, redoes, is_event, settled}
use Rattle.iocm_history.proofs.Apart.{same_some}
use Rattle.iocm_history.proofs.Numbers.{first_or_rest, in_without}
use Rattle.iocm_history.proofs.Remarked.{AnyMarks, any_restored, change_strike, change_restore}
use Rattle.iocm_history.proofs.Settled.{IsStaged, IsSettled, state_now, not_undone, without_first}
use Rattle.iocm_history.proofs.Standing.{standing_change, standing_there}
use Rattle.iocm_history.proofs.Undone.{AreUndone}
use Rattle.iocm_history.proofs.WasMade.{WasMade}
use Rattle.iocm_history.specs.JournalLaws.{ChangesAreEntries, StandingWereAccepted, UndoneWereAccepted, OneLessStands}
use Rattle.iocm_history.specs.JournalLaws.{OneLessIsUndone, IsMade, ChangesWereMade, StagesAreReady}
use Rattle.iocm_history.proofs.Found.{only_these_are_there}
use Rattle.iocm_history.proofs.Numbered.{numbers_in, numbers_then, within, numbered}
use Rattle.iocm_history.proofs.StandOn.{has_number}

-- ---- numbers that stand or are undone

pub standing_were_accepted : StandingWereAccepted
standing_were_accepted opening h n used legal here =
    let stood = (settled opening h used legal).level.standing n here in
    only_these_are_there opening h n stood.change used legal
    (standing_change (store_of opening) n (marked_entries opening h) stood)

-- a change that is undone has its number among entries
undone_there : (m : Store) (k : ℕ) (us : List ℕ) (ls : List MarkedEntry) (ns : List ℕ) → AreUndone m ls ns us
    → is_in k us ≡ true → is_in k (numbers_in ls) ≡ true
undone_there m k [] ls ns chain here = cc
undone_there m k (u ∷ us) ls ns chain here =
    let same = numbers_then AnyMarks ls (with_change u ls) (any_restored (altered_by_change u ls) u ls) in
    sym (ap (is_in k) same) ∙ by (λ rest. undone_there m k us (with_change u ls) (u ∷ ns) chain.1 rest)
    (first_or_rest k u us here)
  where
    by : (is_in k us ≡ true → is_in k (numbers_in (with_change u ls)) ≡ true) → (k ≡ u) ⊎ (is_in k us ≡ true)
        → is_in k (numbers_in (with_change u ls)) ≡ true
    by more (inl first) =
        let stood = chain.0.level.standing u (or_left (eqb u u) _ (eq-eqb u u refl)) in
        ap (λ j. is_in j (numbers_in (with_change u ls))) first ∙ sym (has_number u (with_change u ls))
        ∙ standing_there m u (with_change u ls) stood
    by more (inr rest) = more rest

pub undone_were_accepted : UndoneWereAccepted
undone_were_accepted opening h n used legal here =
    let m = store_of opening in let b = journal_of h in let ls = marked_entries opening h in
    let i = settled opening h used legal in let o = numbered opening h used legal in
    let both = within n (numbers_in ls) o.down (undone_there m n b.undone ls b.standing i.chain here) in (
      both.0,
      (let high = both.1 in let long = o.long in omega arith),
      false_from_ne_true (is_in n b.standing)
          (λ stands. let gone = not_undone m n b.undone ls b.standing stands i.chain in let no : true ≡ false = sym here
          ∙ gone in cc),
    )

-- ---- each number once

abbrev AreDistinct : List ℕ → Type 0
AreDistinct [] = Unit {0}
AreDistinct (n ∷ ns) = (is_in n ns ≡ false) × AreDistinct ns

-- without one of them there is one less
one_less : (n : ℕ) (ns : List ℕ) → AreDistinct ns → is_in n ns ≡ true → length (without n ns) + 1 ≡ length ns
one_less n [] distinct here = cc
one_less n (m ∷ ns) distinct here = by (eqb n m) refl here (one_less n ns distinct.1)
  where
    by : (b : Bool) → eqb n m ≡ b → (b || is_in n ns) ≡ true
        → (is_in n ns ≡ true → length (without n ns) + 1 ≡ length ns)
        → length (cond (not b) (m ∷ without n ns) (without n ns)) + 1 ≡ length (m ∷ ns)
    by true is here more =
        let same = eqb-true n m is in
        let rest : without n ns ≡ ns =
        ap (λ b. cond (not b) (m ∷ without n ns) (without n ns)) (sym is) ∙ ap (λ k. without k (m ∷ ns)) same
        ∙ without_first m ns distinct.0 in
        let long : length (without n ns) ≡ length ns = ap length rest in
        omega arith
    by false is here more = let less = more here in omega arith

distinct_without : (n : ℕ) (ns : List ℕ) → AreDistinct ns → AreDistinct (without n ns)
distinct_without n [] distinct = tt
distinct_without n (m ∷ ns) distinct = by (eqb n m) (distinct_without n ns distinct.1)
  where
    by : (b : Bool) → AreDistinct (without n ns) → AreDistinct (cond (not b) (m ∷ without n ns) (without n ns))
    by true rest = rest
    by false rest = (
      false_from_ne_true _
          (λ here. let there = (in_without n m ns here).0 in let no : true ≡ false = sym there ∙ distinct.0 in cc),
      rest,
    )

undone_distinct : (m : Store) (us : List ℕ) (ls : List MarkedEntry) (ns : List ℕ) → AreUndone m ls ns us
    → AreDistinct us
undone_distinct m [] ls ns chain = tt
undone_distinct m (u ∷ us) ls ns chain = (
  not_undone m u us (with_change u ls) (u ∷ ns) (or_left (eqb u u) _ (eq-eqb u u refl)) chain.1,
  undone_distinct m us (with_change u ls) (u ∷ ns) chain.1,
)

pub one_less_is_undone : OneLessIsUndone
one_less_is_undone opening h n used legal here =
    let i = settled opening h used legal in
    one_less n (journal_of h).undone
    (undone_distinct (store_of opening) (journal_of h).undone (marked_entries opening h) (journal_of h).standing
    i.chain) here

-- ---- along a history

-- no more changes were accepted than entries came, and each that stands stands once
record IsCounted (most : ℕ) (b : Journal) : Type 0 where
  count : b.count ≤ most
  distinct : AreDistinct b.standing

module _ (m : Store) (b : Journal) (a : Account) (i : IsSettled m b a) (most : ℕ) (o : IsCounted most b)
    (bounded : (k : ℕ) → is_in k b.standing ≡ true → k ≤ b.count) where
  counted_as : (c d : Journal) → IsCounted (most + 1) c → d ≡ c → IsCounted (most + 1) d
  counted_as c d counted is = subst (IsCounted (most + 1)) (sym is) counted

  next_counted : (e : Entry) → IsEvent m b a e → IsCounted (most + 1) (journal_after e.answer b)
  next_counted e (idles g staged account_is journal_is) =
      counted_as _ _ (record { count = (let low = o.count in omega arith); distinct = o.distinct }) journal_is
  next_counted e (steps x done off account_is journal_is) =
      counted_as _ _ (record { count = (let low = o.count in omega arith); distinct = o.distinct }) journal_is
  next_counted e (changes c g ready idle account_is journal_is) =
      counted_as _ _ (record {
        count = (let low = o.count in omega arith);
        distinct = (false_from_ne_true _ (λ here. let low = bounded (b.count + 1) here in omega arith), o.distinct);
      }) journal_is
  next_counted e (undoes n here none idle answer account_is journal_is) =
      counted_as _ _ (record {
        count = (let low = o.count in omega arith);
        distinct = distinct_without n b.standing o.distinct;
      }) journal_is
  next_counted e (redoes n us undone idle answer account_is journal_is) =
      let chain = subst (AreUndone m a.entries b.standing) undone i.chain in
      counted_as _ _ (record { count = (let low = o.count in omega arith); distinct = (chain.0.new, o.distinct) })
      journal_is

counted : (opening : State) (h : History) → IsInUse opening → IsLegal opening h → IsCounted (length h) (journal_of h)
counted opening [] used legal = record { count = omega arith; distinct = tt }
counted opening (e ∷ h) used legal =
    let m = store_of opening in let b = journal_of h in let a = account opening h in
    let i = settled opening h used legal.1 in
    subst (λ k. IsCounted k (journal_after e.answer b)) (omega arith)
    (next_counted m b a i (length h) (counted opening h used legal.1)
    (λ k here. (standing_were_accepted opening h k used legal.1 here).1) e (is_event m b a i e legal.0))

pub changes_are_entries : ChangesAreEntries
changes_are_entries opening h used legal = (counted opening h used legal).count

pub one_less_stands : OneLessStands
one_less_stands opening h n used legal here =
    one_less n (journal_of h).standing (counted opening h used legal).distinct here

-- ---- changes as they were made

made_so : (c : Change) → WasMade c → IsMade c
made_so c was = record { used = was.used; accepted = was.accepted; few = was.few; rules = was.rules }

-- each change among entries was made so
abbrev WereMade : List MarkedEntry → Type 0
WereMade ls = (n : ℕ) (c : Change) → change_at n ls ≡ Some c → WasMade c

module _ (m : Store) (b : Journal) (a : Account) (o : WereMade a.entries) where
  made_as : (d d2 : Account) → WereMade d.entries → d2 ≡ d → WereMade d2.entries
  made_as d d2 were is = subst (λ (z : Account). WereMade z.entries) (sym is) were

  next_made : (e : Entry) → IsEvent m b a e → WereMade (account_after e.call e.answer (state_now m a) a).entries
  next_made e (idles g staged account_is journal_is) = made_as _ _ o account_is
  next_made e (steps x done off account_is journal_is) = made_as _ _ o account_is
  next_made e (changes c g ready idle account_is journal_is) =
      made_as _ _ (λ n d at. by (eqb n (b.count + 1)) n d at) account_is
    where
      by : (t : Bool) (n : ℕ) (d : Change) → cond t (Some c) (change_at n a.entries) ≡ Some d → WasMade d
      by true n d at = subst WasMade (same_some c d at) ready.was_made
      by false n d at = o n d at
  next_made e (undoes k here none idle answer account_is journal_is) =
      made_as _ _ (λ n d at. o n d (sym (change_strike (altered_by_change k a.entries) k n a.entries) ∙ at)) account_is
  next_made e (redoes k us undone idle answer account_is journal_is) =
      made_as _ _ (λ n d at. o n d (sym (change_restore (altered_by_change k a.entries) k n a.entries) ∙ at)) account_is

were_made : (opening : State) (h : History) → IsInUse opening → IsLegal opening h → WereMade (marked_entries opening h)
unfolding account
were_made opening [] used legal = λ n c at. cc
were_made opening (e ∷ h) used legal =
    let m = store_of opening in let b = journal_of h in let a = account opening h in
    next_made m b a (were_made opening h used legal.1) e (is_event m b a (settled opening h used legal.1) e legal.0)

pub changes_were_made : ChangesWereMade
changes_were_made opening h n c used legal at = made_so c (were_made opening h used legal n c at)

-- ---- what is staged

pub stages_are_ready : StagesAreReady
stages_are_ready opening h g used legal staged =
    let ready = subst (λ o. IsStaged o (state_now (store_of opening) (account opening h))) staged
    (settled opening h used legal).stage in
    record {
      was_made = made_so g.change ready.was_made;
      config = ready.config;
      numbers = ready.numbers;
      lives = ready.lives;
    }

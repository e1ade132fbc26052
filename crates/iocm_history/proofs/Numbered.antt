-- The changes of a legal history are numbered as they came: each by how many came before it.
use Rattle.std.proofs.Common.{◌≡◌, ℕ, ◌+◌, ◌≤◌, length, Bool, true, false, cond, ◌||◌, eqb, List, [], ◌∷◌, Option, Some}
use Rattle.std.proofs.Common.{is_some, refl, sym, ap, subst, ◌∙◌, arith, ⊎_elim, ◌⊎◌, inl, inr}
use Rattle.std.proofs.lemmas.Bool.{or_left, or_right, eq-eqb, cases_eq}
use Rattle.iocm_model.specs.Operation.State.{State}
use Rattle.iocm_history.specs.Account.{Account, account, account_after, marked_entries}
use Rattle.iocm_history.specs.Change.{Change}
use Rattle.iocm_history.specs.Entry.{Entry, History}
use Rattle.iocm_history.specs.InUse.{IsInUse}
use Rattle.iocm_history.specs.Journal.{Journal, is_in, journal_after, journal_of}
use Rattle.iocm_history.specs.Legal.{IsLegal}
use Rattle.iocm_history.specs.MarkedEntry.{Act, step, change, undoing, nothing, Mark, MarkedEntry, altered_by_change}
use Rattle.iocm_history.specs.MarkedEntry.{change_or, change_at, without_change, with_change}
use Rattle.iocm_history.specs.Store.{Store, store_of}
use Rattle.iocm_history.proofs.Along.{IsEvent, idles, steps, changes, undoes, redoes, is_event, settled}
use Rattle.iocm_history.proofs.Numbers.{first_or_rest}
use Rattle.iocm_history.proofs.Remarked.{AreRemarked, AnyMarks, any_struck, any_restored}
use Rattle.iocm_history.proofs.Settled.{state_now}

-- ---- numbers of changes among entries

-- the numbers of the changes among entries, struck or not
abbrev pub number_and : Act → List ℕ → List ℕ
number_and (change n c) further = n ∷ further
number_and _ further = further

abbrev pub numbers_in : List MarkedEntry → List ℕ
numbers_in [] = []
numbers_in (l ∷ ls) = number_and l.act (numbers_in ls)

-- other marks are no other numbers
pub numbers_then : (R : Mark → Mark → Type 0) (ls ms : List MarkedEntry) → AreRemarked R ls ms
    → numbers_in ms ≡ numbers_in ls
unfolding AreRemarked
numbers_then R [] [] r = refl
numbers_then R [] (m ∷ ms) r = absurd r
numbers_then R (l ∷ ls) [] r = absurd r
numbers_then R (l ∷ ls) (m ∷ ms) r = λ i. number_and (r.0 i) (numbers_then R ls ms r.2 i)

-- a change is there exactly where its number is among them
pub there_by_number : (n : ℕ) (ls : List MarkedEntry) → is_some (change_at n ls) ≡ is_in n (numbers_in ls)
there_by_number n [] = refl
there_by_number n (l ∷ ls) = by l.act (change_at n ls) (numbers_in ls) (there_by_number n ls)
  where
    by_number : (b : Bool) (c : Change) (further : Option Change) (ns : List ℕ) → is_some further ≡ is_in n ns
        → is_some (cond b (Some c) further) ≡ (b || is_in n ns)
    by_number true c further ns same = refl
    by_number false c further ns same = same

    by : (a : Act) (further : Option Change) (ns : List ℕ) → is_some further ≡ is_in n ns
        → is_some (change_or n a further) ≡ is_in n (number_and a ns)
    by (step x done live) further ns same = same
    by (change k c) further ns same = by_number (eqb n k) c further ns same
    by (undoing k) further ns same = same
    by nothing further ns same = same

-- ---- numbers that go down to 1

-- each number is one more than how many follow it
abbrev pub GoDown : List ℕ → Type 0
GoDown [] = Unit {0}
GoDown (n ∷ ns) = (n ≡ length ns + 1) × GoDown ns

-- they are those from 1 to how many there are
pub within : (n : ℕ) (ns : List ℕ) → GoDown ns → is_in n ns ≡ true → (1 ≤ n) × (n ≤ length ns)
within n [] down among = cc
within n (m ∷ ns) down among = by (λ rest. within n ns down.1 rest) (first_or_rest n m ns among)
  where
    by : (is_in n ns ≡ true → (1 ≤ n) × (n ≤ length ns)) → (n ≡ m) ⊎ (is_in n ns ≡ true)
        → (1 ≤ n) × (n ≤ length (m ∷ ns))
    by more (inl same) = let first = down.0 in (omega arith, omega arith)
    by more (inr rest) = let low = more rest in let a = low.0 in let b = low.1 in (a, omega arith)

pub among : (n : ℕ) (ns : List ℕ) → GoDown ns → 1 ≤ n → n ≤ length ns → is_in n ns ≡ true
among n [] down low high = absurd (omega arith)
among n (m ∷ ns) down low high = ⊎_elim (λ same. or_left (eqb n m) _ (eq-eqb n m same))
    (λ other. or_right (eqb n m) _ (among n ns down.1 low (smaller other))) (cases_eq n m)
  where
    smaller : (n ≡ m → ⊥) → n ≤ length ns
    smaller other = let first = down.0 in omega arith

-- ---- along a history

-- the changes among entries are numbered from 1 to a count
pub record AreNumbered (count : ℕ) (ls : List MarkedEntry) : Type 0 where
  pub down : GoDown (numbers_in ls)
  pub long : length (numbers_in ls) ≡ count

module _ (m : Store) (b : Journal) (a : Account) (o : AreNumbered b.count a.entries) where
  numbered_as : (c : Journal) (d : Account) (c2 : Journal) (d2 : Account) → AreNumbered c.count d.entries → d2 ≡ d
      → c2 ≡ c → AreNumbered c2.count d2.entries
  numbered_as c d c2 d2 numbered account_is journal_is =
      subst (λ (z : Journal). AreNumbered z.count d2.entries) (sym journal_is)
      (subst (λ (z : Account). AreNumbered c.count z.entries) (sym account_is) numbered)

  -- the same numbers
  remarked : (ms : List MarkedEntry) → numbers_in ms ≡ numbers_in a.entries → AreNumbered b.count ms
  remarked ms same = record { down = subst GoDown (sym same) o.down; long = ap length same ∙ o.long }

  next_numbered : (e : Entry) → IsEvent m b a e
      → AreNumbered (journal_after e.answer b).count (account_after e.call e.answer (state_now m a) a).entries
  next_numbered e (idles g staged account_is journal_is) = numbered_as b _ _ _ (remarked _ refl) account_is journal_is
  next_numbered e (steps x done off account_is journal_is) = numbered_as b _ _ _ (remarked _ refl) account_is journal_is
  next_numbered e (changes c g ready idle account_is journal_is) =
      numbered_as _ _ _ _ (record
      { down = (ap (λ k. k + 1) (sym o.long), o.down); long = let long = o.long in omega arith }) account_is
      journal_is
  next_numbered e (undoes n here none idle answer account_is journal_is) =
      numbered_as _ _ _ _ (remarked _
      (numbers_then AnyMarks a.entries (without_change n a.entries)
      (any_struck (altered_by_change n a.entries) n a.entries)))
      account_is journal_is
  next_numbered e (redoes n us undone idle answer account_is journal_is) =
      numbered_as _ _ _ _ (remarked _
      (numbers_then AnyMarks a.entries (with_change n a.entries)
      (any_restored (altered_by_change n a.entries) n a.entries)))
      account_is journal_is

pub numbered : (opening : State) (h : History) → IsInUse opening → IsLegal opening h
    → AreNumbered (journal_of h).count (marked_entries opening h)
unfolding account
numbered opening [] used legal = record { down = tt; long = refl }
numbered opening (e ∷ h) used legal =
    let m = store_of opening in let b = journal_of h in let a = account opening h in
    next_numbered m b a (numbered opening h used legal.1) e (is_event m b a (settled opening h used legal.1) e legal.0)

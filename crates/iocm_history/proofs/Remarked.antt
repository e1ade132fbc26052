-- Lists of entries of which the later has other marks, and what carries over from one to the other.
use Rattle.std.proofs.Common.{◌≡◌, ◌≢◌, ℕ, Bool, true, false, cond, eqb, List, [], ◌∷◌, refl}
use Rattle.iocm_types.specs.declared.sub_id.SubId.{SubId}
use Rattle.iocm_history.specs.MarkedEntry.{Mark, kept, undone_with, lost, MarkedEntry, is_change, is_step_on, is_undo}
use Rattle.iocm_history.specs.MarkedEntry.{change_or, change_at, struck_mark, struck, struck_if, strike, unstruck_mark}
use Rattle.iocm_history.specs.MarkedEntry.{taken_back, restore}
use Rattle.iocm_history.specs.MarkLaws.{IsUnmarked}

-- the same acts, with marks that are related
unfoldable pub AreRemarked : (Mark → Mark → Type 0) → List MarkedEntry → List MarkedEntry → Type 0
AreRemarked R [] [] = Unit {0}
AreRemarked R (l ∷ ls) (m ∷ ms) = (m.act ≡ l.act) × R l.mark m.mark × AreRemarked R ls ms
AreRemarked R _ _ = ⊥

module _ (R : Mark → Mark → Type 0) (itself : (m : Mark) → R m m) where
  -- the same lines
  pub remarked_same : (ls : List MarkedEntry) → AreRemarked R ls ls
  unfolding AreRemarked
  remarked_same [] = tt
  remarked_same (l ∷ ls) = (refl, itself l.mark, remarked_same ls)

  remarked_if : (b : Bool) (by : Mark) (l : MarkedEntry) (ls ms : List MarkedEntry) → R l.mark (struck_mark by l.mark)
      → AreRemarked R ls ms
      → AreRemarked R (l ∷ ls) (struck_if b by l ∷ ms)
  unfolding AreRemarked
  remarked_if true by l ls ms new rest = (refl, new, rest)
  remarked_if false by l ls ms new rest = (refl, itself l.mark, rest)

  struck_at : (b : Bool) (xs : List SubId) (n : ℕ) (l : MarkedEntry) (ls : List MarkedEntry)
      → R l.mark (struck_mark (undone_with n) l.mark)
      → AreRemarked R ls (strike xs n ls)
      → AreRemarked R (l ∷ ls)
      (cond b (struck (undone_with n) l ∷ ls) (struck_if (is_step_on xs l.act) (undone_with n) l ∷ strike xs n ls))
  unfolding AreRemarked
  struck_at true xs n l ls new rest = (refl, new, remarked_same ls)
  struck_at false xs n l ls new rest = remarked_if (is_step_on xs l.act) (undone_with n) l ls (strike xs n ls) new rest

  -- an undo strikes some
  pub remarked_strike : (xs : List SubId) (n : ℕ) → ((m : Mark) → R m (struck_mark (undone_with n) m))
      → (ls : List MarkedEntry) → AreRemarked R ls (strike xs n ls)
  unfolding AreRemarked strike
  remarked_strike xs n new [] = tt
  remarked_strike xs n new (l ∷ ls) = struck_at (is_change n l.act) xs n l ls (new l.mark) (remarked_strike xs n new ls)

  -- taking back
  pub remarked_back : (n : ℕ) → ((m : Mark) → R m (unstruck_mark n m)) → (ls : List MarkedEntry)
      → AreRemarked R ls (taken_back n ls)
  unfolding AreRemarked
  remarked_back n back [] = tt
  remarked_back n back (l ∷ ls) = (refl, back l.mark, remarked_back n back ls)

  restored_at : (b : Bool) (xs : List SubId) (n : ℕ) (l : MarkedEntry) (ls : List MarkedEntry)
      → R l.mark (struck_mark lost l.mark)
      → AreRemarked R ls (taken_back n ls) → AreRemarked R ls (restore xs n ls)
      → AreRemarked R (l ∷ ls) (cond b (l ∷ taken_back n ls) (struck_if (is_step_on xs l.act) lost l ∷ restore xs n ls))
  unfolding AreRemarked
  restored_at true xs n l ls new back rest = (refl, itself l.mark, back)
  restored_at false xs n l ls new back rest = remarked_if (is_step_on xs l.act) lost l ls (restore xs n ls) new rest

  -- a redo strikes some for good, and takes back
  pub remarked_restore : (xs : List SubId) (n : ℕ) → ((m : Mark) → R m (struck_mark lost m))
      → ((m : Mark) → R m (unstruck_mark n m))
      → (ls : List MarkedEntry) → AreRemarked R ls (restore xs n ls)
  unfolding AreRemarked restore
  remarked_restore xs n new back [] = tt
  remarked_restore xs n new back (l ∷ ls) =
      restored_at (is_undo n l.act) xs n l ls (new l.mark) (remarked_back n back ls) (remarked_restore xs n new back ls)

-- ---- a change is the same

abbrev pub AnyMarks : Mark → Mark → Type 0
AnyMarks l m = Unit {0}

pub same_change : (R : Mark → Mark → Type 0) (n : ℕ) (ls ms : List MarkedEntry) → AreRemarked R ls ms
    → change_at n ms ≡ change_at n ls
unfolding AreRemarked
same_change R n [] [] r = refl
same_change R n [] (m ∷ ms) r = absurd r
same_change R n (l ∷ ls) [] r = absurd r
same_change R n (l ∷ ls) (m ∷ ms) r = λ i. change_or n (r.0 i) (same_change R n ls ms r.2 i)

pub any_struck : (xs : List SubId) (k : ℕ) (ls : List MarkedEntry) → AreRemarked AnyMarks ls (strike xs k ls)
any_struck xs k ls = remarked_strike AnyMarks (λ m. tt) xs k (λ m. tt) ls

pub any_restored : (xs : List SubId) (k : ℕ) (ls : List MarkedEntry) → AreRemarked AnyMarks ls (restore xs k ls)
any_restored xs k ls = remarked_restore AnyMarks (λ m. tt) xs k (λ m. tt) (λ m. tt) ls

-- after an undo
pub change_strike : (xs : List SubId) (k n : ℕ) (ls : List MarkedEntry) → change_at n (strike xs k ls) ≡ change_at n ls
change_strike xs k n ls = same_change AnyMarks n ls _ (any_struck xs k ls)

-- after a redo
pub change_restore : (xs : List SubId) (k n : ℕ) (ls : List MarkedEntry)
    → change_at n (restore xs k ls) ≡ change_at n ls
change_restore xs k n ls = same_change AnyMarks n ls _ (any_restored xs k ls)

-- ---- nothing is newly struck by the undo of a change

-- what now is struck by the undo of this change was so before
abbrev pub NotNew : ℕ → Mark → Mark → Type 0
NotNew n l m = m ≡ undone_with n → l ≡ undone_with n

not_new_struck : (n : ℕ) (by m : Mark) → by ≢ undone_with n → NotNew n m (struck_mark by m)
not_new_struck n by kept other is = absurd (other is)
not_new_struck n by (undone_with k) other is = is
not_new_struck n by lost other is = is

not_new_if : (b : Bool) (n k : ℕ) → cond b kept (undone_with k) ≡ undone_with n → undone_with k ≡ undone_with n
not_new_if true n k is = cc
not_new_if false n k is = is

not_new_back : (n k : ℕ) (m : Mark) → NotNew n m (unstruck_mark k m)
not_new_back n k kept is = is
not_new_back n k (undone_with j) is = not_new_if (eqb k j) n j is
not_new_back n k lost is = is

other_mark : (n k : ℕ) → k ≢ n → undone_with k ≢ undone_with n
other_mark n k other is = let same : k ≡ n = cc in other same

lost_mark : (n : ℕ) → lost ≢ undone_with n
lost_mark n is = cc

-- the undo of another change strikes nothing newly with this one
pub not_new_strike : (xs : List SubId) (n k : ℕ) → k ≢ n → (ls : List MarkedEntry)
    → AreRemarked (NotNew n) ls (strike xs k ls)
not_new_strike xs n k other ls =
    remarked_strike (NotNew n) (λ m is. is) xs k (λ m. not_new_struck n (undone_with k) m (other_mark n k other)) ls

-- nor does a redo
pub not_new_restore : (xs : List SubId) (n k : ℕ) (ls : List MarkedEntry) → AreRemarked (NotNew n) ls (restore xs k ls)
not_new_restore xs n k ls =
    remarked_restore (NotNew n) (λ m is. is) xs k (λ m. not_new_struck n lost m (lost_mark n)) (not_new_back n k) ls

-- then what had no mark of the change has none
pub unmarked_then : (n : ℕ) (ls ms : List MarkedEntry) → AreRemarked (NotNew n) ls ms → IsUnmarked n ls
    → IsUnmarked n ms
unfolding AreRemarked
unmarked_then n [] [] r none = tt
unmarked_then n [] (m ∷ ms) r none = absurd r
unmarked_then n (l ∷ ls) [] r none = absurd r
unmarked_then n (l ∷ ls) (m ∷ ms) r none = (λ is. none.0 (r.1 is), unmarked_then n ls ms r.2 none.1)

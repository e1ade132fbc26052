-- What striking, restoring and taking back do to marks.
use Rattle.std.proofs.Common.{◌≡◌, ℕ, Bool, true, false, cond, eqb, List, [], ◌∷◌, refl, sym}
use Rattle.std.proofs.lemmas.Bool.{eq-eqb, ne_eqb}
use Rattle.std.specs.Prelude.{◌≢◌}
use Rattle.iocm_types.specs.declared.sub_id.SubId.{SubId}
use Rattle.iocm_history.specs.MarkedEntry.{Mark, kept, undone_with, lost, MarkedEntry, is_change, is_step_on}
use Rattle.iocm_history.specs.MarkedEntry.{struck_mark, struck, struck_if, strike, unstruck_mark, unstruck, taken_back}
use Rattle.iocm_history.specs.MarkLaws.{IsUnmarked, RestoringUndoesStriking}

-- ---- taking back

-- a mark that is not of this change's undo stays
pub unstruck_other : (n : ℕ) (m : Mark) → m ≢ undone_with n → unstruck_mark n m ≡ m
unstruck_other n kept other = refl
unstruck_other n (undone_with m) other = let apart : eqb n m ≡ false =
    ne_eqb n m (λ e. other (λ i. undone_with (sym e i))) in rw apart refl
unstruck_other n lost other = refl

-- a mark that is struck newly and taken back is as it was
unstruck_struck : (n : ℕ) (m : Mark) → m ≢ undone_with n → unstruck_mark n (struck_mark (undone_with n) m) ≡ m
unstruck_struck n kept other = let same : eqb n n ≡ true = eq-eqb n n refl in rw same refl
unstruck_struck n (undone_with m) other = unstruck_other n (undone_with m) other
unstruck_struck n lost other = refl

-- an entry with this mark
abbrev pub marked : MarkedEntry → Mark → MarkedEntry
marked l m = record { act = l.act; mark = m }

-- where no entry is struck by the undo of a change, nothing is taken back
pub taken_back_unmarked : (n : ℕ) (ls : List MarkedEntry) → IsUnmarked n ls → taken_back n ls ≡ ls
taken_back_unmarked n [] none = refl
taken_back_unmarked n (l ∷ ls) none =
    λ i. marked l (unstruck_other n l.mark none.0 i) ∷ taken_back_unmarked n ls none.1 i

struck_back_if : (b : Bool) (n : ℕ) (l : MarkedEntry) → l.mark ≢ undone_with n
    → unstruck n (struck_if b (undone_with n) l) ≡ l
struck_back_if true n l other = λ i. marked l (unstruck_struck n l.mark other i)
struck_back_if false n l other = λ i. marked l (unstruck_other n l.mark other i)

struck_back_at : (b : Bool) (xs : List SubId) (n : ℕ) (l : MarkedEntry) (ls : List MarkedEntry) → l.mark ≢ undone_with n
    → taken_back n ls ≡ ls
    → taken_back n (strike xs n ls) ≡ ls
    → taken_back n (cond b (struck (undone_with n) l ∷ ls)
    (struck_if (is_step_on xs l.act) (undone_with n) l ∷ strike xs n ls)) ≡ l ∷ ls
struck_back_at true xs n l ls other same back = λ i. marked l (unstruck_struck n l.mark other i) ∷ same i
struck_back_at false xs n l ls other same back = λ i. struck_back_if (is_step_on xs l.act) n l other i ∷ back i

-- what an undo newly struck, taken back, is as it was
pub taken_back_strike : RestoringUndoesStriking
unfolding strike
taken_back_strike xs n [] none = refl
taken_back_strike xs n (l ∷ ls) none =
    struck_back_at (is_change n l.act) xs n l ls none.0 (taken_back_unmarked n ls none.1)
    (taken_back_strike xs n ls none.1)

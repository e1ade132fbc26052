-- An undo leaves the run without the change: a law of marked entries.
use Rattle.std.proofs.Common.{◌≡◌, ℕ, Bool, true, false, cond, List, [], ◌∷◌, refl, ap}
use Rattle.iocm_types.specs.declared.sub_id.SubId.{SubId}
use Rattle.iocm_history.specs.Store.{Store, store_with}
use Rattle.iocm_history.specs.MarkedEntry.{undone_with, MarkedEntry, effect_of_act, effect_of_entry, is_change}
use Rattle.iocm_history.specs.MarkedEntry.{is_step_on, altered_by_change, struck, struck_if, strike}
use Rattle.iocm_history.specs.Account.{replay}
use Rattle.iocm_history.specs.StandsOn.{since}
use Rattle.iocm_history.specs.UndoLaws.{struck_steps, before, UndoLeavesTheRunWithout}
use Rattle.iocm_history.proofs.OneCell.{same_store}
use Rattle.iocm_history.proofs.Striking.{skipped, by_undo}

struck_without : (m : Store) (xs : List SubId) (n : ℕ) (ls : List MarkedEntry)
    → replay m (strike xs n ls) ≡ replay (replay m (before n ls)) (struck_steps xs (undone_with n) (since n ls))
unfolding strike
struck_without m xs n [] = refl
struck_without m xs n (l ∷ ls) = by (is_change n l.act) (struck_without m xs n ls)
  where
    by : (b : Bool) → replay m (strike xs n ls)
        ≡ replay (replay m (before n ls)) (struck_steps xs (undone_with n) (since n ls))
        → replay m (cond b (struck (undone_with n) l ∷ ls)
        (struck_if (is_step_on xs l.act) (undone_with n) l ∷ strike xs n ls))
        ≡ replay (replay m (cond b ls (before n ls))) (struck_steps xs (undone_with n) (cond b [] (l ∷ since n ls)))
    by true more = same_store _ _
        (λ q. skipped m q (struck (undone_with n) l) ls (by_undo m q n l.mark (effect_of_act l.act)))
    by false more = ap (store_with (effect_of_entry (struck_if (is_step_on xs l.act) (undone_with n) l))) more

pub undo_leaves_the_run_without : UndoLeavesTheRunWithout
undo_leaves_the_run_without m n ls = struck_without m (altered_by_change n ls) n ls

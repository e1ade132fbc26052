-- What an accepted undo leaves, put together of the laws of histories.
use Rattle.std.proofs.Common.{◌≡◌, ℕ, [], ◌∷◌, ◌++◌, refl, ap}
use Rattle.iocm_model.specs.Operation.State.{State}
use Rattle.iocm_history.specs.Account.{account, replay, marked_entries, state_at}
use Rattle.iocm_history.specs.Entry.{History}
use Rattle.iocm_history.specs.InUse.{IsInUse}
use Rattle.iocm_history.specs.Legal.{IsLegal}
use Rattle.iocm_history.specs.MarkedEntry.{kept, undoing, without_change}
use Rattle.iocm_history.specs.Store.{store_of, state_of}
use Rattle.iocm_history.specs.UndoLaws.{undo_entry}
use Rattle.iocm_history.proofs.Striking.{entry}
use Rattle.iocm_history.proofs.OneCell.{none_written}
use Rattle.iocm_history.proofs.Undone.{inert_replay}
use Rattle.iocm_history.proofs.Undoing.{may_be_undone, standing_changes_are_there, undo_does_what_the_inverse_tree_does}
use Rattle.iocm_history.proofs.Undoing.{undo_puts_the_cells_back}
use Rattle.iocm_headline.specs.Headline.{LeavesTheRunWithout}

-- a history is legal up to each of its entries
pub legal_before : (opening : State) (later h : History) → IsLegal opening (later ++ h) → IsLegal opening h
legal_before opening [] h legal = legal
legal_before opening (e ∷ later) h legal = legal_before opening later h legal.1

struck_state : (opening : State) (h : History) (n : ℕ)
    → state_at opening (undo_entry n ∷ h)
    ≡ state_of (replay (store_of opening) (without_change n (marked_entries opening h)))
unfolding account
struck_state opening h n =
    ap state_of (inert_replay (store_of opening) (entry (undoing n) kept) (without_change n (marked_entries opening h))
    (record { other = λ j. refl; writes = λ q. none_written q; fresh = λ k e. cc }))

pub leaves : (opening : State) (h : History) (n : ℕ) → IsInUse opening → IsLegal opening (undo_entry n ∷ h)
    → LeavesTheRunWithout opening h n (state_at opening (undo_entry n ∷ h))
leaves opening h n used legal =
    let there = standing_changes_are_there opening h n used legal.1 (may_be_undone opening h n legal.0).here in
    record {
      undone = there.0;
      there = there.1;
      run_without = struck_state opening h n;
      cells = undo_puts_the_cells_back opening h n there.0 used legal there.1;
      by_its_inverse = undo_does_what_the_inverse_tree_does opening h n there.0 used legal there.1;
    }

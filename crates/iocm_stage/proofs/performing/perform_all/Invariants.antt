use Rattle.std.proofs.Common.{length, reverse}
use Rattle.iocm_stage.proofs.EditsLeft.{IsPerforming}
use Rattle.iocm_stage.proofs.performing.perform_all.Given as goal

abbrev pub invariant-loop-edit : goal.invariant-loop-edit
invariant-loop-edit l = IsPerforming l.fn.plant (reverse l.fn.edits.items) l.plant (reverse l.edits.items)

abbrev pub decreases-loop-edit : goal.decreases-loop-edit
decreases-loop-edit l = length l.edits.items

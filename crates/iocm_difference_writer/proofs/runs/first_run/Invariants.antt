use Rattle.std.proofs.Common.{length, ◌-◌}
use Rattle.iocm_difference_writer.proofs.Splitting.{IsSoFar}
use Rattle.iocm_difference_writer.proofs.runs.first_run.Given as goal

abbrev pub invariant-loop-count : goal.invariant-loop-count
invariant-loop-count g l = IsSoFar l.edits l.count

abbrev pub decreases-loop-count : goal.decreases-loop-count
decreases-loop-count g l = length l.edits - l.count

use Rattle.std.proofs.Common.{length}
use Rattle.iocm_stage.proofs.Stages.{IsGoingBack}
use Rattle.iocm_stage.proofs.staged.Staged.go_back.Given as goal

abbrev pub invariant-loop-edit : goal.invariant-loop-edit
invariant-loop-edit l = IsGoingBack l.fn.self l.fn.plant l.self l.plant

abbrev pub decreases-loop-edit : goal.decreases-loop-edit
decreases-loop-edit l = length l.self.back.items

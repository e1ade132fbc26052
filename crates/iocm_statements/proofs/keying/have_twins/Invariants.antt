-- The rest has twins where all have.
use Rattle.std.proofs.Common.{◌≡◌, length}
use Rattle.iocm_statements.specs.Operands.{has_twins}
use Rattle.iocm_statements.proofs.keying.have_twins.Given as goal

abbrev pub invariant-loop-first : goal.invariant-loop-first
invariant-loop-first l = has_twins l.rest ≡ has_twins l.operands

abbrev pub decreases-loop-first : goal.decreases-loop-first
decreases-loop-first l = length l.rest

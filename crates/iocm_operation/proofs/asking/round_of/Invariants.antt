use Rattle.std.proofs.Common.{take}
use Rattle.iocm_operation.specs.Asked.{trees_in, AreAsked}
use Rattle.iocm_operation.proofs.asking.round_of.Given as goal

-- the calls of the lines so far
abbrev pub invariant-loop-line : goal.invariant-loop-line
invariant-loop-line l = AreAsked (trees_in l.trees) (take l.line-index l.lines) l.round

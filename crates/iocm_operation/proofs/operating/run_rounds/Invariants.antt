use Rattle.std.proofs.Common.{take}
use Rattle.iocm_operation.specs.Asked.{trees_in}
use Rattle.iocm_operation.specs.SoFar.{IsSoFar}
use Rattle.iocm_operation.proofs.operating.run_rounds.Given as goal

-- the rounds so far were run
abbrev pub invariant-loop-lines : goal.invariant-loop-lines
invariant-loop-lines g l =
    IsSoFar (trees_in l.trees) (take l.lines-index l.rounds) l.initial.so_far.caller l.so_far.caller
    l.so_far.places.items

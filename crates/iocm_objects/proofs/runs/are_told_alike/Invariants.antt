-- From the index on the same is told exactly where it is of all.
use Rattle.std.proofs.Common.{◌≡◌, drop, length}
use Rattle.std.specs.Cmp.Lexicographic.{pointwise}
use Rattle.iocm_objects.specs.Runs.{is_told_alike}
use Rattle.iocm_objects.proofs.runs.are_told_alike.Given as goal

abbrev pub invariant-loop-index : goal.invariant-loop-index
invariant-loop-index l =
    (length l.first ≡ length l.told)
    × (pointwise (is_told_alike l.count) (drop l.index l.first) (drop l.index l.told)
    ≡ pointwise (is_told_alike l.count) l.first l.told)

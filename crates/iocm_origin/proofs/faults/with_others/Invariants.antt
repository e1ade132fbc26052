-- The faults so far, with those of the statements that are left, are all.
use Rattle.std.proofs.Common.{◌≡◌, ◌++◌, drop}
use Rattle.std.specs.List.{filter_map}
use Rattle.iocm_origin.specs.Faults.{fault_elsewhere, with_others}
use Rattle.iocm_origin.proofs.faults.with_others.Given as goal

abbrev pub invariant-loop-statement : goal.invariant-loop-statement
invariant-loop-statement l =
    l.faults.items ++ filter_map (fault_elsewhere l.first.line l.images.items) (drop l.statement-index l.statements)
    ≡ with_others l.first l.statements

-- None of the control units so far has the path.
use Rattle.std.proofs.Common.{◌≡◌, drop}
use Rattle.iocm_plan.specs.Routes.{first_of, unit_over, unit_with}
use Rattle.iocm_plan.specs.Sides.{side_of}
use Rattle.iocm_offon.proofs.route.unit_with.Given as goal

abbrev pub invariant-loop-unit : goal.invariant-loop-unit
invariant-loop-unit l = first_of (unit_over (side_of l.side) l.path) (drop l.unit-index l.unit-items)
    ≡ unit_with (side_of l.side) l.path

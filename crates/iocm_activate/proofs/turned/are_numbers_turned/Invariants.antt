use Rattle.std.proofs.Common.{◌≡◌, drop}
use Rattle.std.specs.Cmp.Lexicographic.{pointwise}
use Rattle.iocm_activate.specs.Fitting.{is_turned_number}
use Rattle.iocm_activate.proofs.turned.are_numbers_turned.Given as goal

abbrev pub invariant-loop-i : goal.invariant-loop-i
invariant-loop-i l = pointwise is_turned_number l.now l.was
    ≡ pointwise is_turned_number (drop l.i l.now) (drop l.i l.was)

use Rattle.std.proofs.Common.{◌≡◌, drop}
use Rattle.std.specs.Cmp.Lexicographic.{pointwise}
use Rattle.iocm_activate.specs.Fitting.{is_turned_view}
use Rattle.iocm_activate.proofs.turned.are_views_turned.Given as goal

abbrev pub invariant-loop-i : goal.invariant-loop-i
invariant-loop-i l = pointwise is_turned_view l.now l.was ≡ pointwise is_turned_view (drop l.i l.now) (drop l.i l.was)

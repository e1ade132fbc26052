-- None of the paths so far stands behind it again.
use Rattle.std.proofs.Common.{◌≡◌, drop}
use Rattle.iocm_model.specs.Machine.PathList.{paths_in}
use Rattle.iocm_model.specs.Rules.EachRule.{has_twice}
use Rattle.iocm_unit_rules.proofs.path_lists.has_path_twice.Given as goal

abbrev pub invariant-loop-i : goal.invariant-loop-i
invariant-loop-i l = has_twice (paths_in l.css (drop l.i l.paths)) ≡ has_twice (paths_in l.css l.paths)

-- The lists so far are right, and with the paths that are left are those at the end.
use Rattle.std.proofs.Common.{◌≡◌, ℕ, ◌<◌, [], ◌++◌, get_or, drop}
use Rattle.iocm_model.specs.Machine.PathList.{paths_in}
use Rattle.iocm_device_rules.specs.Joining.{AreRight}
use Rattle.iocm_device_rules.proofs.joined.join_paths.Given as goal

abbrev pub invariant-loop-path : goal.invariant-loop-path
invariant-loop-path l = record {
  are_right : AreRight l.lists;
  rest : (css : ℕ) → css < 6
      → get_or l.lists css [] ++ paths_in css (drop l.path-index l.more) ≡ get_or l.initial.lists css []
      ++ paths_in css l.more;
}

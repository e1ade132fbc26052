-- The lists so far are right, and with the paths of the units that are left are the path lists.
use Rattle.std.proofs.Common.{◌≡◌, ℕ, ◌<◌, [], ◌++◌, get_or, drop}
use Rattle.iocm_model.specs.Machine.Configuration.{lookup_of}
use Rattle.iocm_model.specs.Machine.PathList.{path_list}
use Rattle.iocm_device_rules.specs.Joining.{AreRight}
use Rattle.iocm_device_rules.proofs.joined.is_list_wrong.Given as goal

abbrev pub invariant-loop-unit : goal.invariant-loop-unit
invariant-loop-unit g l = record {
  are_right : AreRight l.lists;
  rest : (css : ℕ) → css < 6
      → get_or l.lists css [] ++ path_list (lookup_of l.config.records) css (drop l.unit-index l.units)
      ≡ path_list (lookup_of l.config.records) css l.units;
}

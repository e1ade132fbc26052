-- None of the units so far has a path.
use Rattle.std.proofs.Common.{◌≡◌, drop}
use Rattle.std.specs.List.{list_any}
use Rattle.iocm_model.specs.Machine.Configuration.{lookup_of}
use Rattle.iocm_numbers.proofs.PathsThere.{has_path}
use Rattle.iocm_numbers.proofs.reached.is_reached.Given as goal

abbrev pub invariant-loop-unit : goal.invariant-loop-unit
invariant-loop-unit g l =
    list_any (has_path (lookup_of l.config.records) l.css) (drop l.unit-index l.units)
    ≡ list_any (has_path (lookup_of l.config.records) l.css) l.units

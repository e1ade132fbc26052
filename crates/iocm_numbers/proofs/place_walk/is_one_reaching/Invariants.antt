-- None of the units so far has a path.
use Rattle.std.proofs.Common.{◌≡◌, drop}
use Rattle.std.specs.List.{list_any}
use Rattle.iocm_model.specs.Machine.Configuration.{lookup_of}
use Rattle.iocm_numbers.proofs.PathsThere.{has_path}
use Rattle.iocm_numbers.proofs.place_walk.is_one_reaching.Given as goal

abbrev pub invariant-loop-unit : goal.invariant-loop-unit
invariant-loop-unit g l =
    (l.units ≡ l.fn.units)
    × (list_any (has_path (lookup_of l.fn.units) l.css) (drop l.unit-index l.numbers)
    ≡ list_any (has_path (lookup_of l.fn.units) l.css) l.numbers)

-- The paths in the channel subsystems so far.
use Rattle.std.proofs.Common.{◌≡◌, take}
use Rattle.std.specs.List.{flat_map}
use Rattle.iocm_record.specs.Meaning.{unit_of}
use Rattle.iocm_sight.specs.Linked.{linked_in}
use Rattle.iocm_sight.proofs.linked.linked_paths.Given as goal

abbrev pub invariant-loop-css : goal.invariant-loop-css
invariant-loop-css g l = l.listed.items ≡ flat_map (linked_in (unit_of l.unit)) (take l.css-index l.css-items)

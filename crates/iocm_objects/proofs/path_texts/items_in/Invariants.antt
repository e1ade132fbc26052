-- The paths so far that are of the channel subsystem.
use Rattle.std.proofs.Common.{◌≡◌, take}
use Rattle.iocm_objects.specs.Paths.{items_in}
use Rattle.iocm_objects.proofs.path_texts.items_in.Given as goal

abbrev pub invariant-loop-path : goal.invariant-loop-path
invariant-loop-path l = l.items.items ≡ items_in (take l.path-index l.paths) l.css

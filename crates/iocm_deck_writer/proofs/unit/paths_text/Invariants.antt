use Rattle.std.proofs.Common.{◌≡◌, map, take}
use Rattle.iocm_operands.specs.Unit.{path_item_text}
use Rattle.iocm_deck_writer.proofs.unit.paths_text.Given as goal

abbrev pub invariant-loop-path : goal.invariant-loop-path
invariant-loop-path l = l.items.items ≡ map path_item_text (take l.path-index l.paths)

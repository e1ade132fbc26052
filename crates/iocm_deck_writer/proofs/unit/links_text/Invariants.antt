use Rattle.std.proofs.Common.{◌≡◌, map, take}
use Rattle.iocm_operands.specs.Unit.{link_item_text}
use Rattle.iocm_deck_writer.proofs.unit.links_text.Given as goal

abbrev pub invariant-loop-link : goal.invariant-loop-link
invariant-loop-link l = l.items.items ≡ map link_item_text (take l.link-index l.links)

use Rattle.std.proofs.Common.{◌≡◌, map, take}
use Rattle.iocm_deck_writer.specs.Canonical.{to_write}
use Rattle.iocm_difference_writer.proofs.comments.all_to_write.Given as goal

abbrev pub invariant-loop-statement : goal.invariant-loop-statement
invariant-loop-statement l = l.deck.items ≡ map to_write (take l.statement-index l.statements)

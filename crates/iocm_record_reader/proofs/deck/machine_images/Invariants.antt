use Rattle.std.proofs.Common.{◌≡◌, drop}
use Rattle.iocm_record_reader.specs.Deck.{machine_images}
use Rattle.iocm_record_reader.proofs.deck.machine_images.Given as goal

abbrev pub invariant-loop-statement : goal.invariant-loop-statement
invariant-loop-statement l = machine_images (drop l.statement-index l.statements) ≡ machine_images l.statements

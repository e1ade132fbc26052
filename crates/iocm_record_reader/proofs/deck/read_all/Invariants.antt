use Rattle.std.proofs.Common.{◌≡◌, drop}
use Rattle.iocm_record_reader.specs.Deck.{read_from, nothing_read}
use Rattle.iocm_record_reader.proofs.deck.read_all.Given as goal

abbrev pub invariant-loop-statement : goal.invariant-loop-statement
invariant-loop-statement l =
    read_from l.images l.progress (drop l.statement-index l.statements) ≡ read_from l.images nothing_read l.statements

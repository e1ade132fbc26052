-- The statements so far, with what the rest gives, are what the whole deck gives.
use Rattle.std.proofs.Common.{◌≡◌, drop}
use Rattle.iocm_types.specs.Each.{each, after_front}
use Rattle.iocm_statements.specs.Statement.{statement_of, parsed}
use Rattle.iocm_statements.proofs.parser.parse.Given as goal

abbrev pub invariant-loop-statement : goal.invariant-loop-statement
invariant-loop-statement l =
    after_front l.statements.items
    (each (λ _ joined. statement_of joined) l.statement-index (drop l.statement-index l.joined)) ≡ parsed l.joined

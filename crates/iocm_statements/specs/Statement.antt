-- Statements with their operands.
use Rattle.std.specs.Prelude.{List, Result, Ok}
use Rattle.iocm_types.specs.declared.fault.Fault.{Fault}
use Rattle.iocm_types.specs.declared.rule.Rule.TheVariants.{S1}
use Rattle.iocm_types.specs.Fault.{◌>>=◌, or_fault, at}
use Rattle.iocm_types.specs.Each.{each}
use Rattle.iocm_columns.specs.declared.joined.Joined.{Joined}
use Rattle.iocm_statements.specs.declared.statement.Statement.{Statement}
use Rattle.iocm_statements.specs.Operation.{operation_named}
use Rattle.iocm_statements.specs.Operands.{operands_of}

-- what a joined statement says
abbrev pub statement_of : Joined → Result Statement Fault
statement_of joined =
    or_fault (at S1 joined.line) (operation_named joined.operation) >>= λ operation.
    operands_of joined.line joined.text >>= λ operands.
    Ok (record { name = joined.name; operation = operation; operands = operands; line = joined.line })

-- the statements of a deck, in order, or the fault of the first one that has a fault
abbrev pub parsed : List Joined → Result (List Statement) Fault
parsed deck = each (λ _ joined. statement_of joined) 0 deck

-- A deck that is opened: what it describes is a configuration that keeps the rules, or it is
-- refused.
use Rattle.std.specs.Prelude.{ℕ, List, Option, None, Some, Result, Ok, Err}
use Rattle.iocm_types.specs.declared.fault.Fault.{Fault}
use Rattle.iocm_types.specs.Fault.{◌>>=◌}
use Rattle.iocm_columns.specs.Statements.{joined_of}
use Rattle.iocm_statements.specs.declared.statement.Statement.{Statement}
use Rattle.iocm_statements.specs.Statement.{parsed}
use Rattle.iocm_record_reader.specs.Deck.{deck_records}
use Rattle.iocm_model.specs.Machine.Record.{Rec}
use Rattle.iocm_model.specs.Machine.Configuration.{Configuration, configuration_of}
use Rattle.iocm_model.specs.Machine.Numbering.{opening}
use Rattle.iocm_model.specs.Rules.FirstBreach.{Breach, first_breach}
use Rattle.iocm_console.specs.declared.refusal.Refusal.{Refusal}
use Rattle.iocm_console.specs.Refusal.{of_breach, or_refused, ◌>>-◌}

-- the statements of a text, or the first fault: of its lines, of the statements, of the operands
abbrev pub statements_in : List ℕ → Result (List Statement) Fault
statements_in text = joined_of text >>= parsed

-- their records, or the first fault, of the statements first
abbrev pub records_in : List ℕ → Result (List Rec) Fault
records_in deck = statements_in deck >>= deck_records

-- the configuration that a deck describes, or the first fault
abbrev pub configuration_in : List ℕ → Result Configuration Fault
configuration_in deck = records_in deck >>= λ records. Ok (configuration_of records)

-- a configuration, unless it breaks a rule
abbrev pub unless_breached : Option Breach → Configuration → Result Configuration Refusal
unless_breached (Some b) c = Err (of_breach b)
unless_breached None c = Ok c

-- a configuration as it is opened: refused by the rule that it breaks first
abbrev pub opened : Configuration → Result Configuration Refusal
opened c = unless_breached (first_breach c (opening c)) c

-- the configuration of a deck as it is opened, or why the deck is refused: a fault comes first
abbrev pub opened_deck : List ℕ → Result Configuration Refusal
opened_deck deck = or_refused (configuration_in deck) >>- opened

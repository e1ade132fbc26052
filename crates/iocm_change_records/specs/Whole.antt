-- The whole records that an ADD or MODIFY statement gives. Own; each is what the statement gives in
-- a deck of its own.
use Rattle.std.specs.Prelude.{if◌then◌else◌, Option, Some, List, [], ◌∷◌, take, Result, Ok, Err}
use Rattle.iocm_types.specs.declared.fault.Fault.{Fault}
use Rattle.iocm_types.specs.declared.rule.Rule.TheVariants.{S3, S10}
use Rattle.iocm_types.specs.Fault.{◌>>=◌, at}
use Rattle.iocm_tree.specs.declared.verb.Verb.{Verb}
use Rattle.iocm_tree.specs.declared.verb.Verb.TheVariants.{Add, Modify}
use Rattle.iocm_statements.specs.declared.operation.Operation.{Operation}
use Rattle.iocm_statements.specs.declared.operation.Operation.TheVariants.{Id, Resource, Chpid, Cntlunit}
use Rattle.iocm_statements.specs.declared.operation.Operation.TheVariants.{Iodevice, Online}
use Rattle.iocm_statements.specs.declared.statement.Statement.{Statement}
use Rattle.iocm_model.specs.Machine.Record.{Rec}
use Rattle.iocm_record_reader.specs.Deck.{deck_records, read_statement, nothing_read}
use Rattle.iocm_change_records.specs.Listed.{lacks_lists}
use Rattle.iocm_change_records.specs.Pairs.{online_records}
use Rattle.iocm_change_records.specs.Verbs.{verb_named}

-- the records of a deck that has this statement alone
abbrev pub alone : Statement → Result (List Rec) Fault
alone s = deck_records (s ∷ [])

-- a path without the images that it is online to: it is the first of its statement's records. Where
-- no image is known, a SHARED or REC path has no lists by default, so both are to be written
abbrev pub path_alone : Statement → Result (List Rec) Fault
path_alone s = if lacks_lists s.operands then Err (at S3 s.line) else (alone s >>= λ records. Ok (take 1 records))

-- the records that a statement gives; a RESOURCE statement may give two of one key
abbrev pub given : Verb → Operation → Statement → Result (List Rec) Fault
given verb Id s = alone s
given verb Resource s = read_statement [] nothing_read s
given verb Chpid s = path_alone s
given verb Cntlunit s = alone s
given verb Iodevice s = alone s
given verb Online s = online_records verb s
given verb _ s = Ok []

-- a statement with a verb: DELETE has no records to give
abbrev pub records_by : Option Verb → Statement → Result (List Rec) Fault
records_by (Some Add) s = given Add s.operation s
records_by (Some Modify) s = given Modify s.operation s
records_by _ s = Err (at S10 s.line)

-- the records of an ADD or a MODIFY in the order of the text, or its first fault: S10, S3, S5, S4
abbrev pub records_of : Statement → Result (List Rec) Fault
records_of s = records_by (verb_named s.name) s

-- What a configuration deck means: the records of its statements, or the first fault.
-- IOCP User's Guide; the order of faults is own.
use Rattle.std.specs.Prelude.{◌≡◌, ℕ, ◌||◌, Bool, true, false, if◌then◌else◌, Option, None, Some}
use Rattle.std.specs.Prelude.{List, [], ◌∷◌, ◌++◌, take, drop, Result, Ok, Err, codes, unwrap_or}
use Rattle.std.specs.List.{list_any}
use Rattle.std.specs.Option.{option_and_then}
use Rattle.iocm_types.specs.declared.fault.Fault.{Fault}
use Rattle.iocm_types.specs.declared.rule.Rule.{Rule}
use Rattle.iocm_types.specs.declared.rule.Rule.TheVariants.{S1, S3, S4, S5, S7, S8}
use Rattle.iocm_types.specs.Fault.{◌>>=◌, at}
use Rattle.iocm_statements.specs.declared.operation.Operation.{Operation}
use Rattle.iocm_statements.specs.declared.operation.Operation.TheVariants.{Id, Resource, Chpid, Cntlunit, Iodevice}
use Rattle.iocm_statements.specs.declared.statement.Statement.{Statement}
use Rattle.iocm_statements.specs.Operands.{Operand, text_under}
use Rattle.iocm_model.specs.Machine.Record.{Rec, ImageRecord, id, key_of}
use Rattle.iocm_keywords.specs.Known.{lacks_required, is_other_form}
use Rattle.iocm_keywords.specs.LeftOut.{is_left_out}
use Rattle.iocm_operands.specs.Resource.{images_of}
use Rattle.iocm_values.specs.Value.{value}
use Rattle.iocm_record_reader.specs.declared.claimed.Claimed.{Claimed}
use Rattle.iocm_record_reader.specs.Progress.{Progress, has_key, IsKept}
use Rattle.iocm_record_reader.specs.Values.{carried_by}
use Rattle.iocm_record_reader.specs.ResourceRecords.{resource_records}
use Rattle.iocm_record_reader.specs.ChpidRecords.{chpid_records}
use Rattle.iocm_record_reader.specs.UnitRecords.{cntlunit_records}
use Rattle.iocm_record_reader.specs.DeviceRecords.{iodevice_records}

-- the record of an ID statement: what it carries
abbrev pub id_records : List Operand → List Rec
id_records operands = id (carried_by Id operands) ∷ []

-- the records of a statement; in a statement of the other operations there are none
abbrev pub statement_records : Fault → List ImageRecord → Operation → List Operand → Result (List Rec) Fault
statement_records fault images Id operands = Ok (id_records operands)
statement_records fault images Resource operands = resource_records fault operands
statement_records fault images Chpid operands = chpid_records fault images operands
statement_records fault images Cntlunit operands = cntlunit_records fault operands
statement_records fault images Iodevice operands = iodevice_records fault operands
statement_records fault images _ operands = Ok []

-- an operation of change decks
abbrev pub is_of_changes : Operation → Bool
is_of_changes Id = false
is_of_changes Resource = false
is_of_changes Chpid = false
is_of_changes Cntlunit = false
is_of_changes Iodevice = false
is_of_changes _ = true

-- whether a statement is ID; RESOURCE
abbrev pub is_id : Operation → Bool
is_id Id = true
is_id _ = false

abbrev pub is_resource : Operation → Bool
is_resource Resource = true
is_resource _ = false

-- a statement that only one of may stand in a deck, behind another one
abbrev pub is_repeated : Progress → Operation → Bool
is_repeated p Id = p.has_id
is_repeated p Resource = p.has_resource
is_repeated p _ = false

-- what is wrong with a statement before its values are read, in this order
abbrev pub first_fault : Progress → Statement → Option Rule
first_fault p s =
    if is_of_changes s.operation then Some S1
    else if is_repeated p s.operation then Some S7
    else if lacks_required s.operation s.operands then Some S3
    else if list_any (is_left_out s.operation) s.operands then Some S5
    else if list_any (is_other_form s.operation) s.operands then Some S4
    else None

-- the records of a statement with this first fault, or without one; a malformed value is S4
abbrev pub records_unless : Option Rule → List ImageRecord → Statement → Result (List Rec) Fault
records_unless (Some rule) images s = Err (at rule s.line)
records_unless None images s = statement_records (at S4 s.line) images s.operation s.operands

-- the records of a statement, or its first fault: S1, S7, S3, S5, S4
abbrev pub read_statement : List ImageRecord → Progress → Statement → Result (List Rec) Fault
read_statement images p s = records_unless (first_fault p s) images s

-- records with further ones behind them, if each brings a key that isn't there
unfoldable pub with_records : Fault → List Rec → List Rec → Result (List Rec) Fault
with_records fault records [] = Ok records
with_records fault records (r ∷ rs) =
    if has_key records (key_of r) then Err fault else with_records fault (records ++ r ∷ []) rs

-- where the keys of the records before a place are claimed, those from there on go behind them, and
-- all keys are claimed then
abbrev pub GoBehind : Fault → Claimed → List Rec → ℕ → Claimed → Type 0
GoBehind fault old records from new = IsKept old (take from records)
    → IsKept new records × (with_records fault (take from records) (drop from records) ≡ Ok records)

-- behind those records they bring a key twice
abbrev pub AreRefusedBehind : Fault → Claimed → List Rec → ℕ → Type 0
AreRefusedBehind fault claimed records from = IsKept claimed (take from records)
    → with_records fault (take from records) (drop from records) ≡ Err fault

-- what was read, with the records of a further statement
abbrev pub with_statement : Fault → Progress → Operation → List Rec → Result Progress Fault
with_statement fault p operation rs = with_records fault p.records rs >>= λ records.
    Ok (record {
      has_id = p.has_id || is_id operation;
      has_resource = p.has_resource || is_resource operation;
      records = records;
    })

-- what was read, with a further statement
abbrev pub progress_after : List ImageRecord → Progress → Statement → Result Progress Fault
progress_after images p s = read_statement images p s >>= with_statement (at S8 s.line) p s.operation

-- the records of statements behind what was read so far
unfoldable pub read_from : List ImageRecord → Progress → List Statement → Result (List Rec) Fault
read_from images p [] = Ok p.records
read_from images p (s ∷ ss) = progress_after images p s >>= λ q. read_from images q ss

-- the images that a RESOURCE statement gives, or none where it has a fault
abbrev pub images_or_none : Statement → List ImageRecord
images_or_none s =
    unwrap_or (option_and_then (λ text. images_of (value text)) (text_under (codes "PARTITION") s.operands)) []

-- the images of a machine, which defaults look at wherever the RESOURCE statement stands; a
-- RESOURCE statement with a fault refuses the deck, and then they are of no account
abbrev pub machine_images : List Statement → List ImageRecord
machine_images [] = []
machine_images (s ∷ ss) =
    if is_resource s.operation then images_or_none s else machine_images ss

-- before the first statement
abbrev pub nothing_read : Progress
nothing_read = record { has_id = false; has_resource = false; records = [] }

-- the records of a deck, or its first fault
abbrev pub deck_records : List Statement → Result (List Rec) Fault
deck_records ss = read_from (machine_images ss) nothing_read ss

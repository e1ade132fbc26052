-- ONLINE PATH=(CSS(n),cc),PARTITION=(names): pairs of a path and an image's name.
use Rattle.std.specs.Prelude.{ℕ, ◌||◌, Bool, true, false, not, if◌then◌else◌, Option}
use Rattle.std.specs.Prelude.{None, Some, List, map, Result, Ok, Err, codes}
use Rattle.std.specs.List.{list_any}
use Rattle.iocm_types.specs.declared.fault.Fault.{Fault}
use Rattle.iocm_types.specs.declared.rule.Rule.{Rule}
use Rattle.iocm_types.specs.declared.rule.Rule.TheVariants.{S3, S4, S5}
use Rattle.iocm_types.specs.Fault.{◌>>=◌, at}
use Rattle.iocm_tree.specs.declared.verb.Verb.{Verb}
use Rattle.iocm_tree.specs.declared.verb.Verb.TheVariants.{Modify}
use Rattle.iocm_statements.specs.declared.operation.Operation.TheVariants.{Online}
use Rattle.iocm_statements.specs.declared.statement.Statement.{Statement}
use Rattle.iocm_statements.specs.Operands.{Operand, is_under}
use Rattle.iocm_values.specs.NameSet.{name_item}
use Rattle.iocm_values.specs.Reading as reading
use Rattle.iocm_values.specs.Value.{Value, items}
use Rattle.iocm_model.specs.Machine.Record.{Rec}
use Rattle.iocm_record_reader.specs.ChpidRecords.{chpid_path, online_to}
use Rattle.iocm_record_reader.specs.Values.{required}
use Rattle.iocm_change_records.specs.declared.pairs.Pairs.{Pairs}
use Rattle.iocm_change_records.specs.Table.{lacks_key, has_key_left_out}

-- a list of one or more names, in the order of the text
abbrev pub names_listed : Value → Option (List (List ℕ))
names_listed v = reading.◌>>=◌ (items v) (reading.every name_item)

-- the path of the statement, and the names
abbrev pub pairs_of : Fault → List Operand → Result Pairs Fault
pairs_of fault operands =
    chpid_path fault operands >>= λ path. required fault names_listed (codes "PARTITION") operands >>= λ names.
    Ok (record { path = path; names = names })

-- an operand beside PATH and PARTITION
abbrev pub is_beside : Operand → Bool
is_beside o = not (is_under (codes "PATH") o.0 || is_under (codes "PARTITION") o.0)

abbrev pub is_modify : Verb → Bool
is_modify Modify = true
is_modify _ = false

-- what is wrong with an ONLINE statement that adds, before its values are read
abbrev pub online_fault : Verb → List Operand → Option Rule
online_fault verb operands =
    if lacks_key Online operands then Some S3
    else if is_modify verb || has_key_left_out Online operands then Some S5
    else if list_any is_beside operands then Some S4
    else None

-- a record for each name
abbrev pub records_in : Pairs → List Rec
records_in p = map (online_to p.path.css p.path.path) p.names

abbrev pub records_unless : Option Rule → Statement → Result (List Rec) Fault
records_unless (Some rule) s = Err (at rule s.line)
records_unless None s = pairs_of (at S4 s.line) s.operands >>= λ pairs. Ok (records_in pairs)

-- what an ONLINE statement adds; there is none that modifies
abbrev pub online_records : Verb → Statement → Result (List Rec) Fault
online_records verb s = records_unless (online_fault verb s.operands) s

-- The keys of a DELETE statement; the operands that give none are ignored.
use Rattle.std.specs.Prelude.{ℕ, ◌+◌, if◌then◌else◌, Option, None, Some, List, [], ◌∷◌, map, Result, Ok, Err}
use Rattle.std.specs.List.{range_with_len}
use Rattle.iocm_types.specs.declared.css_path.CssPath.{CssPath}
use Rattle.iocm_types.specs.declared.fault.Fault.{Fault}
use Rattle.iocm_types.specs.declared.key.Key.{Key}
use Rattle.iocm_types.specs.declared.key.Key.TheVariants as key
use Rattle.iocm_types.specs.declared.rule.Rule.{Rule}
use Rattle.iocm_types.specs.declared.rule.Rule.TheVariants.{S3, S4, S5, S10}
use Rattle.iocm_types.specs.Fault.{◌>>=◌, at}
use Rattle.iocm_tree.specs.declared.verb.Verb.{Verb}
use Rattle.iocm_tree.specs.declared.verb.Verb.TheVariants.{Delete}
use Rattle.iocm_statements.specs.declared.operation.Operation.{Operation}
use Rattle.iocm_statements.specs.declared.operation.Operation.TheVariants.{Id, Resource, Chpid, Cntlunit}
use Rattle.iocm_statements.specs.declared.operation.Operation.TheVariants.{Iodevice, Online}
use Rattle.iocm_statements.specs.declared.statement.Statement.{Statement}
use Rattle.iocm_statements.specs.Operands.{Operand}
use Rattle.iocm_operands.specs.declared.device.Devices.{Devices}
use Rattle.iocm_record_reader.specs.ChpidRecords.{chpid_path}
use Rattle.iocm_record_reader.specs.DeviceRecords.{statement_devices, device_set}
use Rattle.iocm_record_reader.specs.UnitRecords.{unit_number}
use Rattle.iocm_change_records.specs.declared.pairs.Pairs.{Pairs}
use Rattle.iocm_change_records.specs.Pairs.{pairs_of}
use Rattle.iocm_change_records.specs.ResourceKeys.{resource_keys}
use Rattle.iocm_change_records.specs.Table.{lacks_key, has_key_left_out, has_bare_key}
use Rattle.iocm_change_records.specs.Verbs.{verb_named}

-- what is wrong with a DELETE before its values are read
abbrev pub key_fault : Operation → List Operand → Option Rule
key_fault operation operands =
    if lacks_key operation operands then Some S3
    else if has_key_left_out operation operands then Some S5
    else if has_bare_key operation operands then Some S4
    else None

-- a key for each device
abbrev pub device_keys : ℕ → Devices → List Key
device_keys set d = map (λ place. key.Device set (d.first + place)) (range_with_len 0 d.count)

-- a key for each pair of a path and a name
abbrev pub pair_keys : Pairs → List Key
pair_keys p = map (λ name. key.Online p.path.css p.path.path name) p.names

-- the keys that a statement's operands give
abbrev pub keys_given : Fault → Operation → List Operand → Result (List Key) Fault
keys_given fault Id operands = Ok (key.Id ∷ [])
keys_given fault Resource operands = resource_keys fault operands
keys_given fault Chpid operands = chpid_path fault operands >>= λ (p : CssPath). Ok (key.Path p.css p.path ∷ [])
keys_given fault Cntlunit operands = unit_number fault operands >>= λ number. Ok (key.Unit number ∷ [])
keys_given fault Iodevice operands = statement_devices fault operands >>= λ d.
    device_set fault operands >>= λ set. Ok (device_keys set d)
keys_given fault Online operands = pairs_of fault operands >>= λ pairs. Ok (pair_keys pairs)
keys_given fault _ operands = Ok []

abbrev pub keys_unless : Option Rule → Statement → Result (List Key) Fault
keys_unless (Some rule) s = Err (at rule s.line)
keys_unless None s = keys_given (at S4 s.line) s.operation s.operands

-- a statement with a verb: another verb than DELETE has no keys to give
abbrev pub keys_by : Option Verb → Statement → Result (List Key) Fault
keys_by (Some Delete) s = keys_unless (key_fault s.operation s.operands) s
keys_by _ s = Err (at S10 s.line)

-- the keys of a DELETE in the order of the text, or its first fault: S10, S3, S5, S4
abbrev pub keys_of : Statement → Result (List Key) Fault
keys_of s = keys_by (verb_named s.name) s

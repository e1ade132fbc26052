-- The operation of a leaf's line is one that gives records or keys.
use Rattle.iocm_types.specs.declared.key.Key.{Key}
use Rattle.iocm_types.specs.declared.key.Key.TheVariants as key
use Rattle.iocm_model.specs.Change.Edit.{Action, add, delete, modify}
use Rattle.iocm_model.specs.Machine.Record.{Rec, id, resource, image, limit, path, unit, device, online}
use Rattle.iocm_statements.specs.declared.operation.Operation.{Operation}
use Rattle.iocm_statements.specs.declared.operation.Operation.TheVariants.{Row, Group, Choose, End}
use Rattle.iocm_tree_writer.specs.Leaves.{record_statement, key_statement}
use Rattle.iocm_tree_writer.specs.Written.{action_line}

-- neither ROW, GROUP, CHOOSE nor END
abbrev pub IsOfRecords : Operation → Type 0
IsOfRecords Row = ⊥
IsOfRecords Group = ⊥
IsOfRecords Choose = ⊥
IsOfRecords End = ⊥
IsOfRecords _ = Unit {0}

record_is : (r : Rec) → IsOfRecords (record_statement r).operation
record_is (id carried) = tt
record_is (resource carried) = tt
record_is (image i) = tt
record_is (limit l) = tt
record_is (path p) = tt
record_is (unit u) = tt
record_is (device d) = tt
record_is (online o) = tt

key_is : (k : Key) → IsOfRecords (key_statement k).operation
key_is key.Id = tt
key_is key.Resource = tt
key_is (key.Image css mif) = tt
key_is (key.Limit css set) = tt
key_is (key.Path css number) = tt
key_is (key.Unit number) = tt
key_is (key.Device set number) = tt
key_is (key.Online css number name) = tt

pub line_is_of_records : (a : Action) → IsOfRecords (action_line a).statement.operation
line_is_of_records (add r) = record_is r
line_is_of_records (delete k) = key_is k
line_is_of_records (modify r) = record_is r

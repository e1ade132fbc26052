-- The canonical deck of a configuration: ID, RESOURCE, CHPID, CNTLUNIT, IODEVICE, each in the order
-- of keys, each known operand in one form and one order, and what a statement carries behind them.
-- Online records aren't written: they are those of the access lists.
use Rattle.std.specs.Prelude.{ℕ, Bool, true, false, Some, List, [], ◌∷◌, ◌++◌, map, codes}
use Rattle.std.specs.List.{flat_map, join_with_byte}
use Rattle.std.specs.Option.{option_map, option_map_or}
use Rattle.iocm_types.specs.declared.path_kind.PathKind.{PathKind}
use Rattle.iocm_types.specs.declared.path_kind.PathKind.TheVariants.{Shared, Reconfigurable}
use Rattle.iocm_types.specs.Print.{hex2, hex4}
use Rattle.iocm_columns.specs.declared.joined.Joined.{Joined}
use Rattle.iocm_columns.specs.Written.{deck_bytes}
use Rattle.iocm_model.specs.Machine.Configuration.{Configuration, records_of}
use Rattle.iocm_model.specs.Machine.Record.{Rec, CarriedOperand, PathRecord, UnitRecord, id, path, unit}
use Rattle.iocm_statements.specs.Operation.{operation_name}
use Rattle.iocm_statements.specs.declared.operation.Operation.TheVariants.{Id, Chpid, Cntlunit}
use Rattle.iocm_operands.specs.ChpidPath.{path_text}
use Rattle.iocm_operands.specs.ChpidPartition.{partition_text}
use Rattle.iocm_operands.specs.Unit.{paths_text, ranges_text, links_text}
use Rattle.iocm_deck_writer.specs.Statement.{Statement, valued, alone, if_any}
use Rattle.iocm_deck_writer.specs.Resource.{resource_statements}
use Rattle.iocm_deck_writer.specs.Device.{iodevice_statements}

-- the ID statement, which carries all of its operands
abbrev pub id_statements : Rec → List Statement
id_statements (id carried) = record { operation = Id; operands = carried } ∷ []
id_statements _ = []

-- the word SHARED of a shared path
abbrev pub shared_words : PathKind → List CarriedOperand
shared_words Shared = alone (codes "SHARED") ∷ []
shared_words _ = []

abbrev pub is_reconfigurable : PathKind → Bool
is_reconfigurable Reconfigurable = true
is_reconfigurable _ = false

-- the operands of a channel path, always with both lists
abbrev pub chpid_operands : PathRecord → List CarriedOperand
chpid_operands p =
    valued (codes "PATH") (Some (path_text (record { css = p.css; path = p.number })))
    ++ (shared_words p.kind
    ++ valued (codes "PARTITION") (Some (partition_text p.access p.candidates (is_reconfigurable p.kind))))

-- the operands of a control unit
abbrev pub cntlunit_operands : UnitRecord → List CarriedOperand
cntlunit_operands u =
    valued (codes "CUNUMBR") (Some (hex4 u.number))
    ++ (valued (codes "PATH") (if_any u.paths (paths_text u.paths))
    ++ (valued (codes "UNITADD") (Some (ranges_text u.ranges))
    ++ (valued (codes "LINK") (if_any u.links (links_text u.links))
    ++ valued (codes "CUADD") (option_map hex2 u.cuadd))))

-- the statements of a channel path and of a control unit, which carry the rest behind their
-- operands
abbrev pub chpid_statement : PathRecord → Statement
chpid_statement p = record { operation = Chpid; operands = chpid_operands p ++ p.carried }

abbrev pub cntlunit_statement : UnitRecord → Statement
cntlunit_statement u = record { operation = Cntlunit; operands = cntlunit_operands u ++ u.carried }

abbrev pub part_statements : Rec → List Statement
part_statements (path p) = chpid_statement p ∷ []
part_statements (unit u) = cntlunit_statement u ∷ []
part_statements _ = []

-- the statements of records in the order of keys
abbrev pub canonical : List Rec → List Statement
canonical records =
    flat_map id_statements records
    ++ (resource_statements records ++ (flat_map part_statements records ++ iodevice_statements records))

-- an operand as it stands in the operand part
abbrev pub operand_text : CarriedOperand → List ℕ
operand_text o = option_map_or (λ keyword. keyword ++ 61 ∷ o.text) o.keyword o.text

-- a statement that is to be written, which stands at no line yet and has no name
abbrev pub to_write : Statement → Joined
to_write s = record {
  line = 0;
  name = [];
  operation = operation_name s.operation;
  text = join_with_byte 44 (map operand_text s.operands);
}

-- the bytes of the canonical deck of a configuration
abbrev pub canonical_deck : Configuration → List ℕ
canonical_deck c = deck_bytes (map to_write (canonical (records_of c)))

-- A canonical statement is read again: as itself from the columns, and as the records that it was
-- written of.
use Rattle.std.specs.Prelude.{◌≡◌, ◌≢◌, ℕ, false, List, [], ◌∷◌, ◌++◌, map, All, Ok}
use Rattle.std.specs.List.{list_any}
use Rattle.iocm_types.specs.declared.fault.Fault.{Fault}
use Rattle.iocm_types.specs.Fault.{◌>>=◌}
use Rattle.iocm_columns.specs.Statements.{joined_of}
use Rattle.iocm_columns.specs.Written.{deck_bytes}
use Rattle.iocm_model.specs.Machine.Record.{Rec, CarriedOperand, ImageRecord, LimitRecord, PathRecord}
use Rattle.iocm_model.specs.Machine.Record.{UnitRecord, id, image, limit, path, unit, device}
use Rattle.iocm_statements.specs.declared.operation.Operation.{Operation}
use Rattle.iocm_statements.specs.declared.operation.Operation.TheVariants.{Id, Resource}
use Rattle.iocm_statements.specs.declared.statement.Statement as read
use Rattle.iocm_statements.specs.Operands.{Operand}
use Rattle.iocm_statements.specs.Statement.{parsed}
use Rattle.iocm_keywords.specs.Known.{lacks_required, is_other_form}
use Rattle.iocm_keywords.specs.LeftOut.{is_left_out}
use Rattle.iocm_operands.specs.Again.{AreByCss, IsImage, AreLimits}
use Rattle.iocm_record_reader.specs.ChpidRecords.{online_to}
use Rattle.iocm_record_reader.specs.Deck.{statement_records}
use Rattle.iocm_record_reader.specs.ResourceRecords.{carried_records}
use Rattle.iocm_deck_writer.specs.Again.{placed, ArePlaceable}
use Rattle.iocm_deck_writer.specs.Canonical.{to_write, chpid_statement, cntlunit_statement}
use Rattle.iocm_deck_writer.specs.Device.{Run, iodevice_statement}
use Rattle.iocm_deck_writer.specs.Resource.{resource_operands}
use Rattle.iocm_deck_writer.specs.Statement.{Statement}
use Rattle.iocm_round_trip.specs.Given.{IsInColumns, AreCarriedBy, IsGivenPath, IsGivenUnit}
use Rattle.iocm_round_trip.specs.Running.{IsGivenRun, run_devices}

-- ---- as itself

-- a statement that can be written: its operands can stand in one operand part and in columns
pub record CanBeWritten (s : Statement) : Type 0 where
  pub operands : ArePlaceable s.operands
  pub texts : All (λ (o : CarriedOperand). IsInColumns o.text) s.operands

-- what is read of a canonical statement that stands at this line
abbrev pub as_read : ℕ → Statement → read.Statement
as_read line s = record { name = []; operation = s.operation; operands = placed 0 s.operands; line = line }

-- statements that are read of canonical ones, each at some line
abbrev pub AreReadOf : List Statement → List read.Statement → Type 0
AreReadOf [] [] = Unit {0}
AreReadOf (s ∷ ss) (r ∷ rs) = (r ≡ as_read r.line s) × AreReadOf ss rs
AreReadOf _ _ = ⊥

-- the bytes of canonical statements are read as these statements
pub record AreReadAgain (ss : List Statement) : Type 0 where
  pub read : List read.Statement
  pub is_read : (joined_of (deck_bytes (map to_write ss)) >>= parsed) ≡ Ok read
  pub same : AreReadOf ss read

abbrev pub ReadsStatementsAgain : Type 0
ReadsStatementsAgain = (ss : List Statement) → All CanBeWritten ss → AreReadAgain ss

-- ---- as records

-- no operand that is required is missing, and none stands in a form that isn't taken
pub record HasNoFault (operation : Operation) (operands : List Operand) : Type 0 where
  pub complete : lacks_required operation operands ≡ false
  pub taken : list_any (is_left_out operation) operands ≡ false
  pub formed : list_any (is_other_form operation) operands ≡ false

-- a statement that can be written and is read as these records, in a machine of any images
pub record IsReadAs (s : Statement) (records : List Rec) : Type 0 where
  pub written : CanBeWritten s
  pub no_fault : HasNoFault s.operation (placed 0 s.operands)
  pub is_read : (fault : Fault) (images : List ImageRecord)
      → statement_records fault images s.operation (placed 0 s.operands) ≡ Ok records

-- each statement of the canonical deck
abbrev pub ReadsIdAgain : Type 0
ReadsIdAgain = (carried : List CarriedOperand) → AreCarriedBy Id carried
    → IsReadAs (record { operation = Id; operands = carried }) (id carried ∷ [])

abbrev pub ReadsResourceAgain : Type 0
ReadsResourceAgain = (images : List ImageRecord) (limits : List LimitRecord) (carried : List CarriedOperand)
    → (images ≢ [] → AreByCss (λ (i : ImageRecord). i.css) IsImage images) → (limits ≢ [] → AreLimits limits)
    → AreCarriedBy Resource carried
    → IsReadAs (record { operation = Resource; operands = resource_operands images limits ++ carried })
    (carried_records carried ++ (map image images ++ map limit limits))

-- a path, and that it is online to the images of its access list
abbrev pub path_records : PathRecord → List Rec
path_records p = path p ∷ map (online_to p.css p.number) p.access

abbrev pub ReadsChpidAgain : Type 0
ReadsChpidAgain = (p : PathRecord) → IsGivenPath p → IsReadAs (chpid_statement p) (path_records p)

abbrev pub ReadsCntlunitAgain : Type 0
ReadsCntlunitAgain = (u : UnitRecord) → IsGivenUnit u → IsReadAs (cntlunit_statement u) (unit u ∷ [])

abbrev pub ReadsIodeviceAgain : Type 0
ReadsIodeviceAgain = (r : Run) → IsGivenRun r → IsReadAs (iodevice_statement r) (map device (run_devices r))

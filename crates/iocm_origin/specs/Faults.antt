-- The faults of a configuration deck, as far as each statement's can be told by itself. A fault of
-- lines or cards hides all others. While the text of a statement can't be read, only such faults are
-- told; once all texts can be read, those of the records follow.
-- S7 and S8 are faults of two statements together. One is told only if it is the first fault.
-- Others of their kind come to light once it is mended.
use Rattle.std.specs.Prelude.{◌≡◌, ◌↔◌, ℕ, ◌==◌, if◌then◌else◌, Option, None, Some, List, [], ◌∷◌, Result, Ok, Err}
use Rattle.std.specs.List.{filter_map}
use Rattle.iocm_types.specs.declared.fault.Fault.{Fault}
use Rattle.iocm_types.specs.Fault.{◌>>=◌}
use Rattle.iocm_columns.specs.declared.joined.Joined.{Joined}
use Rattle.iocm_columns.specs.Statements.{joined_of}
use Rattle.iocm_model.specs.Machine.Record.{Rec, ImageRecord}
use Rattle.iocm_statements.specs.declared.statement.Statement.{Statement}
use Rattle.iocm_statements.specs.Statement.{parsed}
use Rattle.iocm_record_reader.specs.Deck.{deck_records, machine_images, nothing_read, read_statement}

-- the fault of what was read, if it has one
abbrev pub fault_of : {X : Type 0} → Result X Fault → Option Fault
fault_of (Ok x) = None
fault_of (Err fault) = Some fault

-- of each statement whose text can't be read its fault, in order: each is parsed as if it were the only one
abbrev pub text_faults : List Joined → List Fault
text_faults joined = filter_map (λ j. fault_of (parsed (j ∷ []))) joined

-- the fault that a statement has when it is read alone, if it stands at another line than this
abbrev pub fault_elsewhere : ℕ → List ImageRecord → Statement → Option Fault
fault_elsewhere line images s = if s.line == line then None else fault_of (read_statement images nothing_read s)

-- the first fault of the records, and behind it that of every other statement that has one, in order
abbrev pub with_others : Fault → List Statement → List Fault
with_others first ss = first ∷ filter_map (fault_elsewhere first.line (machine_images ss)) ss

-- the faults of joined statements: none if all records are read; those of texts come alone
abbrev pub by_records : Result (List Rec) Fault → List Statement → List Fault
by_records (Ok records) ss = []
by_records (Err first) ss = with_others first ss

abbrev pub by_texts : Result (List Statement) Fault → List Joined → List Fault
by_texts (Ok ss) joined = by_records (deck_records ss) ss
by_texts (Err fault) joined = text_faults joined

abbrev pub statement_faults : List Joined → List Fault
statement_faults joined = by_texts (parsed joined) joined

-- all faults of a deck
abbrev pub if_joined : Result (List Joined) Fault → List Fault
if_joined (Ok joined) = statement_faults joined
if_joined (Err fault) = []

abbrev pub all_faults : List ℕ → List Fault
all_faults deck = if_joined (joined_of deck)

-- the first fault of joined statements, with which they are refused, if they have one
abbrev pub first_fault : List Joined → Option Fault
first_fault joined = fault_of (parsed joined >>= deck_records)

-- ---- what the list promises

-- the first of a list, if it has one
abbrev pub first_of : List Fault → Option Fault
first_of [] = None
first_of (f ∷ fs) = Some f

-- the first of all faults is the one with which the statements are refused
abbrev pub FirstComesFirst : Type 0
FirstComesFirst = (joined : List Joined) → first_of (statement_faults joined) ≡ first_fault joined

-- there is none exactly if they aren't refused
abbrev pub NoneWhereNoFirst : Type 0
NoneWhereNoFirst = (joined : List Joined) → (statement_faults joined ≡ []) ↔ (first_fault joined ≡ None)

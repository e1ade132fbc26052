-- The line of a configuration deck that a key comes from, and what it promises.
use Rattle.std.specs.Prelude.{◌≡◌, ℕ, Bool, true, Option, None, Some, is_some, List, [], ◌∷◌, filter, Result, Ok, Err}
use Rattle.std.specs.List.{list_any}
use Rattle.std.specs.Ordering.{eq_by_cmp}
use Rattle.iocm_types.specs.declared.fault.Fault.{Fault}
use Rattle.iocm_types.specs.declared.key.Key.{Key}
use Rattle.iocm_types.specs.declared.key.Key.TheVariants.{Path, Online}
use Rattle.iocm_types.specs.declared.rule.Rule.TheVariants.{S4}
use Rattle.iocm_types.specs.Fault.{at}
use Rattle.iocm_types.specs.Key.{key_cmp}
use Rattle.iocm_model.specs.Machine.Record.{Rec, ImageRecord, key_of}
use Rattle.iocm_statements.specs.declared.statement.Statement.{Statement}
use Rattle.iocm_record_reader.specs.Deck.{statement_records, machine_images, deck_records}

-- the records of a statement, if it has no fault
abbrev pub if_given : Result (List Rec) Fault → List Rec
if_given (Ok records) = records
if_given (Err fault) = []

-- those that it brings in a machine of these images
abbrev pub brought : List ImageRecord → Statement → List Rec
brought images s = if_given (statement_records (at S4 s.line) images s.operation s.operands)

-- the key that a key comes with: that a path is online comes with the path, others with themselves
abbrev pub comes_with : Key → Key
comes_with (Online css path name) = Path css path
comes_with key = key

-- a key is that of one of these records
abbrev pub is_of_one : List Rec → Key → Bool
is_of_one records key = list_any (λ r. eq_by_cmp key_cmp key (key_of r)) records

-- a statement brings a key
abbrev pub brings : List ImageRecord → Key → Statement → Bool
brings images key s = is_of_one (brought images s) (comes_with key)

-- the statements that bring a key, in their order
abbrev pub bringing : List ImageRecord → Key → List Statement → List Statement
bringing images key ss = filter (brings images key) ss

-- the line of the first of some statements
abbrev pub first_line : List Statement → Option ℕ
first_line [] = None
first_line (s ∷ ss) = Some s.line

-- the line of a deck that a key comes from: that of the first statement that brings it
abbrev pub line_among : List ImageRecord → Key → List Statement → Option ℕ
line_among images key ss = first_line (bringing images key ss)

abbrev pub line_of_key : List Statement → Key → Option ℕ
line_of_key ss key = line_among (machine_images ss) key ss

-- ---- what it promises

-- of a deck that is read one statement alone brings each key
abbrev pub OneBringsEachKey : Type 0
OneBringsEachKey = (ss : List Statement) (records : List Rec) (key : Key) → deck_records ss ≡ Ok records
    → is_of_one records key ≡ true → (s : Statement) × (bringing (machine_images ss) key ss ≡ s ∷ [])

-- and only keys that come with one of its records have lines
abbrev pub OnlyKeysThereHaveLines : Type 0
OnlyKeysThereHaveLines = (ss : List Statement) (records : List Rec) (key : Key) → deck_records ss ≡ Ok records
    → is_some (line_of_key ss key) ≡ is_of_one records (comes_with key)

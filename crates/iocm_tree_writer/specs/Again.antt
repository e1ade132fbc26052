-- What is written of a change tree is read again as the same tree.
use Rattle.std.specs.Prelude.{◌≡◌, ℕ, List, [], ◌∷◌, All, Result, Ok}
use Rattle.iocm_types.specs.declared.fault.Fault.{Fault}
use Rattle.iocm_types.specs.Fault.{◌>>=◌}
use Rattle.iocm_columns.specs.Statements.{joined_of}
use Rattle.iocm_columns.specs.Written.{deck_bytes}
use Rattle.iocm_model.specs.Change.Edit.{Action}
use Rattle.iocm_model.specs.Machine.Record.{Rec}
use Rattle.iocm_statements.specs.declared.statement.Statement as read
use Rattle.iocm_statements.specs.Statement.{parsed}
use Rattle.iocm_tree.specs.Carried.{bare}
use Rattle.iocm_tree.specs.Trees.{CarriedTree, plain_tree}
use Rattle.iocm_tree_reader.specs.Leaves.{edits_of}
use Rattle.iocm_tree_reader.specs.Reading.{read_tree}
use Rattle.iocm_deck_writer.specs.Again.{placed}
use Rattle.iocm_round_trip.specs.Again.{records_in}
use Rattle.iocm_tree_writer.specs.Given.{IsGivenAction, IsOfDecks, IsTreeOfDecks}
use Rattle.iocm_tree_writer.specs.Written.{Line, action_line, written}

-- what is read of a line that stands at this line of the deck
abbrev pub as_read : ℕ → Line → read.Statement
as_read line l = record {
  name = l.name;
  operation = l.statement.operation;
  operands = placed 0 l.statement.operands;
  line = line;
}

-- the line of an action is read as the edit of this action alone
abbrev pub ReadsLeafAgain : Type 0
ReadsLeafAgain = (line : ℕ) (a : Action) → IsGivenAction a → edits_of (as_read line (action_line a)) ≡ Ok (bare a ∷ [])

-- each record of a configuration deck is one that these actions may have
abbrev pub GivesActions : Type 0
GivesActions = (bytes : List ℕ) (records : List Rec) → records_in bytes ≡ Ok records → All IsOfDecks records

-- the tree of a change deck's bytes, or its first fault
abbrev pub tree_in : List ℕ → Result CarriedTree Fault
tree_in bytes = joined_of bytes >>= parsed >>= read_tree

-- each tree that a change deck describes is one that decks and change decks give
abbrev pub GivesTrees : Type 0
GivesTrees = (bytes : List ℕ) (t : CarriedTree) → tree_in bytes ≡ Ok t → IsTreeOfDecks t

-- what is written of such a tree is read as this tree
abbrev pub ReadsTreeAgain : Type 0
ReadsTreeAgain = (t : CarriedTree) → IsTreeOfDecks t → tree_in (deck_bytes (written (plain_tree t))) ≡ Ok t

-- so is what is written of a tree that was read
abbrev pub ReadsReadTreeAgain : Type 0
ReadsReadTreeAgain = (bytes : List ℕ) (t : CarriedTree) → tree_in bytes ≡ Ok t
    → tree_in (deck_bytes (written (plain_tree t))) ≡ Ok t

-- What is printed of a difference is read again as its edits, in their order.
use Rattle.std.specs.Prelude.{◌≡◌, ◌≤◌, ℕ, Option, None, Some, Ok, List, [], ◌∷◌, ◌++◌, All, length, map}
use Rattle.std.specs.FinMap.{get}
use Rattle.iocm_types.specs.declared.key.Key.{Key}
use Rattle.iocm_model.specs.Change.Edit.{Action}
use Rattle.iocm_model.specs.Change.Tree.{most_leaves}
use Rattle.iocm_model.specs.Machine.Configuration.{Configuration, IsKeyed}
use Rattle.iocm_model.specs.Machine.Record.{Rec}
use Rattle.iocm_round_trip.specs.Given.{IsGiven}
use Rattle.iocm_tree.specs.Carried.{Carried, bare}
use Rattle.iocm_tree.specs.Trees.{CarriedTree, CarriedParts, leaf, row, group, choose, none, part}
use Rattle.iocm_tree_writer.specs.Again.{tree_in}
use Rattle.iocm_tree_writer.specs.Given.{IsGivenAction}
use Rattle.iocm_difference_writer.specs.Text.{difference_text}

abbrev mutual
  -- the edits of a tree in order
  pub edits_in : CarriedTree → List Carried
  edits_in (leaf c) = c ∷ []
  edits_in (row ps) = edits_among ps
  edits_in (group ps) = edits_among ps
  edits_in (choose ps) = edits_among ps

  pub edits_among : CarriedParts → List Carried
  edits_among none = []
  edits_among (part p ps) = edits_in p ++ edits_among ps

abbrev mutual
  -- a tree of Rows alone: its edits are performed one after the other, all or none
  pub IsOfRows : CarriedTree → Type 0
  IsOfRows (leaf c) = Unit {0}
  IsOfRows (row ps) = AreOfRows ps
  IsOfRows (group ps) = ⊥
  IsOfRows (choose ps) = ⊥

  pub AreOfRows : CarriedParts → Type 0
  AreOfRows none = Unit {0}
  AreOfRows (part p ps) = IsOfRows p × AreOfRows ps

-- a change deck that is read as these actions, one after the other
pub record IsReadAsActions (bytes : List ℕ) (actions : List Action) : Type 0 where
  pub tree : CarriedTree
  pub is_read : tree_in bytes ≡ Ok tree
  pub in_rows : IsOfRows tree
  pub edits : edits_in tree ≡ map bare actions

-- each record of a configuration is one that decks give
abbrev pub HasGiven : Configuration → Type 0
HasGiven c = (k : Key) (r : Rec) → get c k ≡ Some r → IsGiven r

-- what was there is asked for of such a configuration, or not asked for
abbrev pub IsOldOfDecks : Option Configuration → Type 0
IsOldOfDecks None = Unit {0}
IsOldOfDecks (Some c) = IsKeyed c × HasGiven c

-- the text of actions such as decks give, no more than a tree may have, is read as these actions,
-- whether or not it says what was there
abbrev pub DifferenceIsReadAgain : Type 0
DifferenceIsReadAgain = (old : Option Configuration) (actions : List Action) → IsOldOfDecks old
    → All IsGivenAction actions
    → length actions ≤ most_leaves → IsReadAsActions (difference_text old actions) actions

-- The text of a difference is read again as the difference, and means what the difference means.
use Rattle.std.specs.Prelude.{◌≡◌, ◌≤◌, Option, Ok, All, length}
use Rattle.iocm_model.specs.Machine.Configuration.{Configuration, IsKeyed}
use Rattle.iocm_model.specs.Operation.State.{opening_state}
use Rattle.iocm_model.specs.Laws.Trees.{KeepsTheRules}
use Rattle.iocm_model.specs.Change.Meaning.{meaning}
use Rattle.iocm_model.specs.Change.Tree.{most_leaves}
use Rattle.iocm_tree.specs.Trees.{CarriedTree, plain_tree}
use Rattle.iocm_tree_writer.specs.Again.{tree_in}
use Rattle.iocm_tree_writer.specs.Given.{IsGivenAction}
use Rattle.iocm_difference.specs.Difference.{difference}
use Rattle.iocm_difference_writer.specs.Again.{HasGiven, IsOldOfDecks, IsReadAsActions}
use Rattle.iocm_difference_writer.specs.Text.{difference_text}
use Rattle.iocm_difference_laws.specs.Meaning.{outcome_between}

-- a configuration that a deck gives: each record is under its own key and one that decks give, and
-- the rules hold when it is opened
pub record IsConfigurationOfDeck (c : Configuration) : Type 0 where
  pub keyed : IsKeyed c
  pub given : HasGiven c
  pub rules : KeepsTheRules (opening_state c)

-- the actions of the difference of two such configurations are actions that decks give
abbrev pub DifferencesAreGiven : Type 0
DifferencesAreGiven = (c d : Configuration) → IsConfigurationOfDeck c → IsConfigurationOfDeck d
    → All IsGivenAction (difference c d)

-- the text of their difference is read as the difference, whether or not it says what was there
abbrev pub DifferenceIsReadAgainAsOne : Type 0
DifferenceIsReadAgainAsOne = (old : Option Configuration) (c d : Configuration) → IsOldOfDecks old
    → IsConfigurationOfDeck c → IsConfigurationOfDeck d → length (difference c d) ≤ most_leaves
    → IsReadAsActions (difference_text old (difference c d)) (difference c d)

-- and the tree that is read means what the difference means, on the machine that is opened from the
-- old configuration
abbrev pub TextMeansTheDifference : Type 0
TextMeansTheDifference = (old : Option Configuration) (c d : Configuration) (t : CarriedTree) → IsOldOfDecks old
    → IsConfigurationOfDeck c → IsConfigurationOfDeck d → length (difference c d) ≤ most_leaves
    → tree_in (difference_text old (difference c d)) ≡ Ok t
    → meaning (plain_tree t) (opening_state c) ≡ outcome_between c d

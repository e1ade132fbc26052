-- What change trees do to the example deck, and the nodes that refusals name, as they are stated by
-- hand.
use Rattle.std.specs.Prelude.{◌≡◌, ℕ, zero, suc, List, [], ◌∷◌, None, Some, Err}
use Rattle.std.specs.FinMap.{get}
use Rattle.iocm_types.specs.declared.rule.Rule.TheVariants.{V5, B1, E1, E3, C1, C2}
use Rattle.iocm_types.specs.declared.key.Key.TheVariants as key
use Rattle.iocm_types.specs.declared.refused.At.TheVariants as at
use Rattle.iocm_model.specs.Operation.State.{State}
use Rattle.iocm_model.specs.Change.Edit.{Edit}
use Rattle.iocm_model.specs.Change.Effect.{values_in, with_effect}
use Rattle.iocm_model.specs.Change.Runs.{state_after_all, cells_written_by_all}
use Rattle.iocm_model.specs.Change.Tree.{ChangeTree, Parts, leaf, row, group, choose, none, part}
use Rattle.iocm_model.specs.Change.InverseTree.{parts_of, inverse_tree}
use Rattle.iocm_model.specs.Change.Meaning.{state_reached, meaning}
use Rattle.iocm_examples.specs.BaseDeck.{unit_on, device_on_1000, device_key, subchannel}
use Rattle.iocm_examples.specs.Edits.{base_opened, added, deleted, modified, Performs, IsRefused, IsTakenBack}
use Rattle.iocm_examples.specs.Edits.{add_0fff, one_for_another, add_1000, started_at, base_started}

-- two devices change their unit addresses by way of a third one
abbrev pub exchange : List Edit
exchange =
    modified (device_on_1000 0x1002 0x05) ∷ modified (device_on_1000 0x1003 0x02)
    ∷ modified (device_on_1000 0x1002 0x03) ∷ []

pub record AnExchange : Type 0 where
  pub accepted : Performs (group (parts_of exchange)) exchange base_opened
  pub first : get (state_after_all exchange base_opened).config (device_key 0x1002) ≡ Some (device_on_1000 0x1002 0x03)
  pub second : get (state_after_all exchange base_opened).config (device_key 0x1003) ≡ Some (device_on_1000 0x1003 0x02)
  pub altered : (cells_written_by_all exchange base_opened).subchannels ≡ []
  pub put_back : with_effect (values_in base_opened (cells_written_by_all exchange base_opened))
      (state_after_all exchange base_opened) ≡ base_opened
  pub taken_back : IsTakenBack exchange base_opened

-- a unit on a path that isn't there
abbrev pub unit_2000 : Edit
unit_2000 = added (unit_on 0x2000 (0x60 ∷ []) None)

-- V5 names the node where the rules are checked: the Group, the part of a Choose, or else the root
abbrev pub BreaksAt : ChangeTree → ℕ → Type 0
BreaksAt p node = IsRefused p V5 node (at.Key (key.Unit 0x2000)) base_opened

pub record NodesOfBreaches : Type 0 where
  pub in_leaf : BreaksAt (leaf unit_2000) 0
  pub in_group : BreaksAt (group (parts_of (unit_2000 ∷ []))) 0
  pub in_row : BreaksAt (row (parts_of (add_0fff ∷ unit_2000 ∷ []))) 0
  pub in_group_in_row : BreaksAt (row (part (leaf add_0fff) (part (group (parts_of (unit_2000 ∷ []))) none))) 2
  pub in_group_after : BreaksAt (row (part (leaf unit_2000) (part (group (parts_of (add_0fff ∷ []))) none))) 2
  pub in_last_of_choose : BreaksAt (choose (parts_of (deleted (key.Unit 0x2000) ∷ unit_2000 ∷ []))) 2

-- a Row may break a rule on its way, a Group in it may not; a Choose goes on after a part that
-- breaks one
pub record WhereRulesHold : Type 0 where
  pub on_the_way : Performs (row (parts_of (unit_2000 ∷ deleted (key.Unit 0x2000) ∷ [])))
      (unit_2000 ∷ deleted (key.Unit 0x2000) ∷ []) base_opened
  pub in_group : BreaksAt
      (row (part (group (parts_of (unit_2000 ∷ []))) (part (leaf (deleted (key.Unit 0x2000))) none))) 1
  pub chosen : Performs (choose (parts_of (unit_2000 ∷ add_0fff ∷ []))) (add_0fff ∷ []) base_opened

-- nodes are counted in preorder: a Group of two is nodes 1 to 3 here, so that the part after it is
-- node 4
abbrev pub AfterAGroup : Type 0
AfterAGroup = IsRefused
    (row (part (group (parts_of one_for_another)) (part (leaf add_1000) none))) E1 4
    (at.Key (device_key 0x1000)) base_opened

-- a Group without parts is accepted, and performs nothing; a Choose without parts is refused
pub record EmptyNodes : Type 0 where
  pub group : Performs (group none) [] base_opened
  pub choose : IsRefused (choose none) E3 0 at.Nothing base_opened

-- Rows in one another, and Rows of empty Rows beside one another
abbrev pub nested : ℕ → ChangeTree
nested zero = row none
nested (suc k) = row (part (nested k) none)

abbrev pub times : ℕ → ChangeTree → Parts
times zero p = none
times (suc k) p = part p (times k p)

abbrev pub rows_of_rows : ℕ → ℕ → ChangeTree
rows_of_rows many each = row (times many (row (times each (row none))))

-- depth 32 and 4096 leaves are accepted, and one more of either is refused, with no node
pub record LimitsOfTrees : Type 0 where
  pub deep : Performs (nested 31) [] base_opened
  pub too_deep : meaning (nested 32) base_opened ≡ Err (record { rule = C1; node = None; at = at.Nothing })
  pub wide : Performs (rows_of_rows 64 64) [] base_opened
  pub too_wide : meaning (rows_of_rows 17 241) base_opened ≡ Err (record { rule = C2; node = None; at = at.Nothing })

-- a device has come in, and then LPA starts its subchannel of 1000, or that of the new device
unfoldable pub base_grown : State
base_grown = state_after_all (add_0fff ∷ []) base_opened

unfoldable pub started_elsewhere : State
started_elsewhere = started_at (subchannel 1 0) base_grown

unfoldable pub started_there : State
started_there = started_at (subchannel 1 4) base_grown

-- an edit is taken back later, and the live records that it didn't alter are kept as they are then;
-- where one that it altered is busy, that is refused, at the leaf of the inverse tree
pub record TakenBackLater : Type 0 where
  pub elsewhere : state_reached (meaning (inverse_tree (add_0fff ∷ []) base_opened) started_elsewhere)
      ≡ Some base_started
  pub there : IsRefused (inverse_tree (add_0fff ∷ []) base_opened) B1 1 (at.Subchannel (subchannel 1 4)) started_there

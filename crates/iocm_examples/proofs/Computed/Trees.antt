-- Change trees, computed on states as lists.
use Rattle.std.proofs.Common.{◌≡◌, ℕ, zero, suc, None, List, [], ◌∷◌, refl, ap}
use Rattle.iocm_types.specs.declared.sub_id.SubId.{SubId}
use Rattle.iocm_types.specs.declared.key.Key.TheVariants as key
use Rattle.iocm_model.specs.Change.Effect.{Cells}
use Rattle.iocm_examples.specs.BaseDeck.{unit_on, subchannel, device_on_1000, device_key}
use Rattle.iocm_examples.specs.Trees.{LimitsOfTrees, TakenBackLater, base_grown, started_elsewhere, started_there}
use Rattle.iocm_examples.specs.Trees.{AnExchange, NodesOfBreaches, WhereRulesHold, AfterAGroup, EmptyNodes}
use Rattle.iocm_examples.specs.Edits.{started_at, base_started, base_opened}
use Rattle.iocm_examples.proofs.OnLists.{on_lists}
use Rattle.iocm_examples.proofs.Listed.States.{ListedState, listing, record_at_is, ListedEdit}
use Rattle.iocm_examples.proofs.Listed.Effects.{state_after_all_listed, state_after_all_is, put_back, edits_cells_are}
use Rattle.iocm_examples.proofs.Listed.Trees.{ListedPlan, ListedPlans, one, in_row, in_group, in_choose, no_parts}
use Rattle.iocm_examples.proofs.Listed.Trees.{and_part, meaning_is, meaning_refused, parts_listed, taken_back}
use Rattle.iocm_examples.proofs.Listed.Trees.{taken_back_at, inverse_refused}
use Rattle.iocm_examples.proofs.Computed.Edits.{base_listing, base_is, plain_add, plain_delete, plain_modify, the_0fff}
use Rattle.iocm_examples.proofs.Computed.Edits.{add_0fff_listed, one_for_another_listed, started_listed, started_is}
use Rattle.iocm_examples.proofs.Computed.Edits.{started_listing, base_started_is}

-- two devices exchange their unit addresses
abbrev pub exchange_listed : List ListedEdit
exchange_listed =
    plain_modify (device_on_1000 0x1002 0x05) ∷ plain_modify (device_on_1000 0x1003 0x02)
    ∷ plain_modify (device_on_1000 0x1002 0x03) ∷ []

-- that they do
pub an_exchange : AnExchange
unfolding on_lists base_listing
an_exchange = let after = state_after_all_is exchange_listed base_opened base_listing base_is in record {
  accepted = meaning_is (in_group (parts_listed exchange_listed)) exchange_listed base_opened base_listing base_is refl;
  first = record_at_is _ _ (device_key 0x1002) after;
  second = record_at_is _ _ (device_key 0x1003) after;
  altered = ap (λ (w : Cells). w.subchannels) (edits_cells_are exchange_listed base_opened base_listing base_is);
  put_back = put_back exchange_listed base_opened base_listing base_is refl;
  taken_back = taken_back exchange_listed base_opened base_listing base_is refl;
}

-- a unit whose path isn't there is added, and deleted
abbrev the_unit : ListedEdit
the_unit = plain_add (unit_on 0x2000 (0x60 ∷ []) None)

abbrev delete_unit : ListedEdit
delete_unit = plain_delete (key.Unit 0x2000)

-- that unit in a Group
abbrev group_of_unit : ListedPlan
group_of_unit = in_group (parts_listed (the_unit ∷ []))

-- the nodes that a breach names
pub nodes_of_breaches : NodesOfBreaches
unfolding on_lists base_listing
nodes_of_breaches = record {
  in_leaf = meaning_refused (one the_unit) _ base_opened base_listing base_is refl;
  in_group = meaning_refused group_of_unit _ base_opened base_listing base_is refl;
  in_row = meaning_refused (in_row (parts_listed (the_0fff ∷ the_unit ∷ []))) _ base_opened base_listing base_is refl;
  in_group_in_row = meaning_refused (in_row (and_part (one the_0fff) (and_part group_of_unit no_parts))) _ base_opened
      base_listing base_is refl;
  in_group_after = meaning_refused
      (in_row (and_part (one the_unit) (and_part (in_group (parts_listed (the_0fff ∷ []))) no_parts)))
      _ base_opened base_listing base_is refl;
  in_last_of_choose = meaning_refused (in_choose (parts_listed (delete_unit ∷ the_unit ∷ []))) _ base_opened
      base_listing base_is refl;
}

-- where the rules hold in a tree
pub where_rules_hold : WhereRulesHold
unfolding on_lists base_listing
where_rules_hold = record {
  on_the_way = meaning_is (in_row (parts_listed (the_unit ∷ delete_unit ∷ []))) (the_unit ∷ delete_unit ∷ [])
      base_opened base_listing base_is refl;
  in_group = meaning_refused (in_row (and_part group_of_unit (and_part (one delete_unit) no_parts))) _ base_opened
      base_listing base_is refl;
  chosen = meaning_is (in_choose (parts_listed (the_unit ∷ the_0fff ∷ []))) (the_0fff ∷ []) base_opened base_listing
      base_is refl;
}

-- the node after a Group
pub after_a_group : AfterAGroup
unfolding on_lists base_listing
after_a_group = meaning_refused
    (in_row (and_part (in_group (parts_listed one_for_another_listed))
    (and_part (one (plain_add (device_on_1000 0x1000 0x04))) no_parts)))
    _ base_opened base_listing base_is refl

-- nodes without parts
pub empty_nodes : EmptyNodes
unfolding on_lists base_listing
empty_nodes = record {
  group = meaning_is (in_group no_parts) [] base_opened base_listing base_is refl;
  choose = meaning_refused (in_choose no_parts) _ base_opened base_listing base_is refl;
}

-- Rows in one another, and Rows of empty Rows
abbrev pub nested_listed : ℕ → ListedPlan
nested_listed zero = in_row no_parts
nested_listed (suc k) = in_row (and_part (nested_listed k) no_parts)

abbrev pub times_listed : ℕ → ListedPlan → ListedPlans
times_listed zero p = no_parts
times_listed (suc k) p = and_part p (times_listed k p)

abbrev rows_listed_of : ℕ → ℕ → ListedPlan
rows_listed_of many each = in_row (times_listed many (in_row (times_listed each (in_row no_parts))))

-- the limits of depth and leaves
pub limits_of_trees : LimitsOfTrees
unfolding on_lists base_listing
limits_of_trees = record {
  deep = meaning_is (nested_listed 31) [] base_opened base_listing base_is refl;
  too_deep = meaning_refused (nested_listed 32) _ base_opened base_listing base_is refl;
  wide = meaning_is (rows_listed_of 64 64) [] base_opened base_listing base_is refl;
  too_wide = meaning_refused (rows_listed_of 17 241) _ base_opened base_listing base_is refl;
}

-- the states after the device has come in
unfoldable grown_listing : ListedState
grown_listing = state_after_all_listed add_0fff_listed base_listing

-- these are those of the state
base_grown_is : listing base_grown ≡ grown_listing
unfolding base_grown grown_listing
base_grown_is = state_after_all_is add_0fff_listed base_opened base_listing base_is

-- a subchannel is started after the device has come in
started_in_grown : (x : SubId) → listing (started_at x base_grown) ≡ started_listed x grown_listing
started_in_grown x = started_is x base_grown grown_listing base_grown_is

-- an edit that is taken back later
pub taken_back_later : TakenBackLater
unfolding on_lists base_listing started_listing grown_listing started_elsewhere started_there
taken_back_later = record {
  elsewhere = taken_back_at add_0fff_listed base_opened started_elsewhere base_started
      base_listing (started_listed (subchannel 1 0) grown_listing) started_listing
      base_is (started_in_grown (subchannel 1 0)) base_started_is refl;
  there = inverse_refused add_0fff_listed _ base_opened started_there base_listing
      (started_listed (subchannel 1 4) grown_listing)
      base_is (started_in_grown (subchannel 1 4)) refl;
}

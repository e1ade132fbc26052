-- Edits of paths, computed on states as lists.
use Rattle.std.proofs.Common.{◌≡◌, None, [], ◌∷◌, refl, ap}
use Rattle.iocm_types.specs.declared.order.Order.TheVariants as orders
use Rattle.iocm_model.specs.Change.Edit.{add}
use Rattle.iocm_model.specs.Change.Effect.{Cells}
use Rattle.iocm_model.specs.Operation.Step.{order}
use Rattle.iocm_examples.specs.BaseDeck.{lpb, online_record, unit_on, subchannel}
use Rattle.iocm_examples.specs.Edits.{enabled_with, base_opened}
use Rattle.iocm_examples.specs.Paths.{LiveRecordsComeAlong, base_enabled, APathComesOnline, APathListIsTurned}
use Rattle.iocm_examples.proofs.OnLists.{on_lists}
use Rattle.iocm_examples.proofs.Listed.States.{ListedState, listing, live_at_is, seen_at_is, answer_is, after_step_is}
use Rattle.iocm_examples.proofs.Listed.States.{after_step_listed, ListedEdit}
use Rattle.iocm_examples.proofs.Listed.Effects.{state_after_all_is, edits_cells_are}
use Rattle.iocm_examples.proofs.Listed.Trees.{one, meaning_is, taken_back}
use Rattle.iocm_examples.proofs.Computed.Edits.{base_listing, base_is, plain_modify, enable_step, the_online}

-- the lists once LPB has enabled its subchannel of 1000
unfoldable enabled_listing : ListedState
enabled_listing = after_step_listed (subchannel 2 0) (enable_step 0x40) base_listing

-- these are those of the state
base_enabled_is : listing base_enabled ≡ enabled_listing
unfolding base_enabled enabled_listing
base_enabled_is = after_step_is (subchannel 2 0) (enable_step 0x40) base_opened base_listing base_is

-- a path that comes online
pub a_path_comes_online : APathComesOnline
unfolding on_lists base_listing enabled_listing
a_path_comes_online = let after = state_after_all_is (the_online ∷ []) base_enabled enabled_listing base_enabled_is in
    record {
      accepted = meaning_is (one the_online) (the_online ∷ []) base_enabled enabled_listing base_enabled_is refl;
      seen = seen_at_is _ _ (subchannel 2 0) after;
      altered = ap (λ (w : Cells). w.subchannels)
          (edits_cells_are (the_online ∷ []) base_enabled enabled_listing base_enabled_is);
      live = live_at_is _ _ (subchannel 2 0) after;
      before = answer_is base_enabled enabled_listing (subchannel 2 0) (order orders.Start) base_enabled_is;
      afterwards = answer_is _ _ (subchannel 2 0) (order orders.Start) after;
    }

-- live records that come along
abbrev the_online_with_lives : ListedEdit
the_online_with_lives = record {
  action = add (online_record 0x51 lpb);
  places = [];
  lives = (subchannel 1 0, enabled_with 0x40) ∷ (subchannel 2 0, enabled_with 0x40) ∷ [];
}

pub live_records_come_along : LiveRecordsComeAlong
unfolding on_lists base_listing
live_records_come_along = let after =
    state_after_all_is (the_online_with_lives ∷ []) base_opened base_listing base_is in record {
      accepted = meaning_is (one the_online_with_lives) (the_online_with_lives ∷ []) base_opened base_listing base_is refl;
      altered = live_at_is _ _ (subchannel 2 0) after;
      unaltered = live_at_is _ _ (subchannel 1 0) after;
    }

-- the unit's paths are turned
abbrev the_turn : ListedEdit
the_turn = plain_modify (unit_on 0x1000 (0x51 ∷ 0x50 ∷ []) None)

-- a path list that is turned
pub a_path_list_is_turned : APathListIsTurned
unfolding on_lists base_listing enabled_listing
a_path_list_is_turned = let after = state_after_all_is (the_turn ∷ []) base_enabled enabled_listing base_enabled_is in
    record {
      accepted = meaning_is (one the_turn) (the_turn ∷ []) base_enabled enabled_listing base_enabled_is refl;
      seen = seen_at_is _ _ (subchannel 2 0) after;
      live = live_at_is _ _ (subchannel 2 0) after;
      taken_back = taken_back (the_turn ∷ []) base_enabled enabled_listing base_enabled_is refl;
    }

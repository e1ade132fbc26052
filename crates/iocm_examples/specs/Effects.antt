-- The inverse of an edit, and the cells that edits write, with their values, as they are stated by
-- hand.
use Rattle.std.specs.Prelude.{◌≡◌, ℕ, List, [], ◌∷◌, Option, None, Some}
use Rattle.std.specs.FinMap.{entries, from_entries}
use Rattle.iocm_types.specs.declared.key.Key.{Key}
use Rattle.iocm_types.specs.declared.live.Live.{Live}
use Rattle.iocm_types.specs.declared.place.NumberCell.{NumberCell}
use Rattle.iocm_types.specs.declared.sub_id.SubId.{SubId}
use Rattle.iocm_types.specs.declared.key.Key.TheVariants as key
use Rattle.iocm_model.specs.Machine.Record.{Rec}
use Rattle.iocm_model.specs.Change.Edit.{add}
use Rattle.iocm_model.specs.Change.Effect.{Effect, with_effect}
use Rattle.iocm_model.specs.Change.Runs.{effect_of, state_after_all}
use Rattle.iocm_model.specs.Change.Inverse.{inverse_of}
use Rattle.iocm_model.specs.Operation.Orders.{fresh}
use Rattle.iocm_examples.specs.BaseDeck.{lpb, online_record, place_of, device_on_1000, device_key, subchannel}
use Rattle.iocm_examples.specs.Edits.{base_opened, one_for_another, online_51, delete_1001}

-- the inverse of a delete adds the old record, and brings along the number that was freed and the
-- two live records that went
abbrev pub AnInverse : Type 0
AnInverse = inverse_of delete_1001 base_opened ≡ record {
  action = add (device_on_1000 0x1001 0x01);
  places = place_of 0x1001 1 ∷ [];
  lives = from_entries ((subchannel 1 1, fresh 0xC0) ∷ (subchannel 2 1, fresh 0xC0) ∷ []);
}

-- the cells that an effect writes, with their values in order
pub record Writes (f : Effect) (records : List (Key × Option Rec)) (numbers : List (NumberCell × Option ℕ))
    (lives : List (SubId × Option Live))
    : Type 0 where
  pub of_records : entries f.records ≡ records
  pub of_numbers : entries f.numbers ≡ numbers
  pub of_lives : entries f.lives ≡ lives

-- a path that comes online writes its record and the live records of the four subchannels that see
-- it; a device that is deleted takes its record, its number and two live records away; and what an
-- effect writes is what its edits do
pub record Effects : Type 0 where
  pub online : Writes (effect_of (online_51 ∷ []) base_opened)
      ((key.Online 0 0x51 lpb, Some (online_record 0x51 lpb)) ∷ []) []
      ((subchannel 2 0, Some (fresh 0xC0)) ∷ (subchannel 2 1, Some (fresh 0xC0)) ∷ (subchannel 2 2, Some (fresh 0xC0))
      ∷ (subchannel 2 3, Some (fresh 0xC0)) ∷ [])
  pub deleted : Writes (effect_of (delete_1001 ∷ []) base_opened) ((device_key 0x1001, None) ∷ [])
      ((record { css = 0; set = 0; number = 1 }, None) ∷ []) ((subchannel 1 1, None) ∷ (subchannel 2 1, None) ∷ [])
  pub replayed : with_effect (effect_of one_for_another base_opened) base_opened
      ≡ state_after_all one_for_another base_opened

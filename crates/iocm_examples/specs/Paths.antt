-- What an edit of paths leaves of a subchannel that is enabled, as it is stated by hand.
use Rattle.std.specs.Prelude.{◌≡◌, [], ◌∷◌, None, Some}
use Rattle.std.specs.FinMap.{get, from_entries}
use Rattle.iocm_types.specs.declared.answer.Answer.TheVariants as answers
use Rattle.iocm_types.specs.declared.order.Order.TheVariants as orders
use Rattle.iocm_types.specs.declared.order.Io.TheVariants as io
use Rattle.iocm_model.specs.Operation.State.{State, seen_in}
use Rattle.iocm_model.specs.Change.Edit.{add, Edit}
use Rattle.iocm_model.specs.Change.Runs.{state_after_all, cells_written_by_all}
use Rattle.iocm_model.specs.Change.Tree.{leaf}
use Rattle.iocm_model.specs.Operation.Step.{order, answer_in}
use Rattle.iocm_model.specs.Operation.Orders.{fresh}
use Rattle.iocm_examples.specs.BaseDeck.{lpb, online_record, unit_on, subchannel}
use Rattle.iocm_examples.specs.Views.{a_view}
use Rattle.iocm_examples.specs.Edits.{base_opened, modified, Performs, IsTakenBack, enabled_at, online_51, enabled_with}

-- LPB's subchannel of 1000 is enabled, with path 51 alone in its logical-path mask
unfoldable pub base_enabled : State
base_enabled = enabled_at (subchannel 2 0) 0x40 base_opened

-- a path that comes online to an image is in its path-available mask; a live record stays as it
-- was, and what START lacked is there
pub record APathComesOnline : Type 0 where
  pub accepted : Performs (leaf online_51) (online_51 ∷ []) base_enabled
  pub seen : seen_in (state_after_all (online_51 ∷ []) base_enabled) (subchannel 2 0)
      ≡ a_view 0x1000 (0x50 ∷ 0x51 ∷ []) 0xC0 0xC0
  pub altered : (cells_written_by_all (online_51 ∷ []) base_enabled).subchannels
      ≡ subchannel 2 0 ∷ subchannel 2 1 ∷ subchannel 2 2 ∷ subchannel 2 3 ∷ []
  pub live : get (state_after_all (online_51 ∷ []) base_enabled).lives (subchannel 2 0) ≡ Some (enabled_with 0x40)
  pub before : answer_in base_enabled (subchannel 2 0) (order orders.Start) ≡ answers.Io (io.Code 3)
  pub afterwards :
      answer_in (state_after_all (online_51 ∷ []) base_enabled) (subchannel 2 0) (order orders.Start)
      ≡ answers.Io (io.Code 0)

-- live records come along for two subchannels of 1000: LPB's is altered and gets its own, and LPA's
-- isn't and stays as it was
abbrev pub online_51_with_lives : Edit
online_51_with_lives = record {
  action = add (online_record 0x51 lpb);
  places = [];
  lives = from_entries ((subchannel 1 0, enabled_with 0x40) ∷ (subchannel 2 0, enabled_with 0x40) ∷ []);
}

pub record LiveRecordsComeAlong : Type 0 where
  pub accepted : Performs (leaf online_51_with_lives) (online_51_with_lives ∷ []) base_opened
  pub altered : get (state_after_all (online_51_with_lives ∷ []) base_opened).lives (subchannel 2 0)
      ≡ Some (enabled_with 0x40)
  pub unaltered : get (state_after_all (online_51_with_lives ∷ []) base_opened).lives (subchannel 1 0)
      ≡ Some (fresh 0xC0)

-- the unit's paths the other way round
abbrev pub turned : Edit
turned = modified (unit_on 0x1000 (0x51 ∷ 0x50 ∷ []) None)

-- where the path list changes, the logical-path mask becomes the path-installed mask, and the
-- subchannel stays enabled; it has its old mask again where that is taken back
pub record APathListIsTurned : Type 0 where
  pub accepted : Performs (leaf turned) (turned ∷ []) base_enabled
  pub seen : seen_in (state_after_all (turned ∷ []) base_enabled) (subchannel 2 0)
      ≡ a_view 0x1000 (0x51 ∷ 0x50 ∷ []) 0xC0 0x40
  pub live : get (state_after_all (turned ∷ []) base_enabled).lives (subchannel 2 0) ≡ Some (enabled_with 0xC0)
  pub taken_back : IsTakenBack (turned ∷ []) base_enabled

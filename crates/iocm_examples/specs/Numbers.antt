-- The numbers that devices get at opening, and get and free by edits of the example deck, as they
-- are stated by hand.
use Rattle.std.specs.Prelude.{◌≡◌, ℕ, List, [], ◌∷◌, Some, None, codes}
use Rattle.std.specs.FinMap.{entries, get, empty}
use Rattle.iocm_types.specs.declared.place.Place.{Place}
use Rattle.iocm_types.specs.declared.sub_id.SubId.{SubId}
use Rattle.iocm_types.specs.declared.path_kind.PathKind.TheVariants.{Shared}
use Rattle.iocm_types.specs.declared.rule.Rule.TheVariants.{E4}
use Rattle.iocm_types.specs.declared.refused.At.TheVariants as at
use Rattle.iocm_model.specs.Machine.Record.{Rec, image, path, unit}
use Rattle.iocm_model.specs.Machine.Configuration.{configuration_of}
use Rattle.iocm_model.specs.Machine.Numbering.{opening}
use Rattle.iocm_model.specs.Operation.State.{State, opening_state}
use Rattle.iocm_model.specs.Change.Edit.{add, Edit, altered_between}
use Rattle.iocm_model.specs.Change.Runs.{state_after_all, cells_written_by_all}
use Rattle.iocm_model.specs.Change.Tree.{leaf, row}
use Rattle.iocm_model.specs.Change.InverseTree.{parts_of}
use Rattle.iocm_model.specs.Operation.Orders.{fresh}
use Rattle.iocm_examples.specs.BaseDeck.{base, place_of, css_path, device_on_1000, device_key, subchannel}
use Rattle.iocm_examples.specs.Edits.{base_opened, modified, Performs, IsRefused}
use Rattle.iocm_examples.specs.Edits.{IsTakenBack, add_0fff, one_for_another}

-- at opening the four devices have the numbers 0 to 3 in channel subsystem 0, and none elsewhere
abbrev pub BaseNumbers : Type 0
BaseNumbers =
    entries (opening (configuration_of base))
    ≡ place_of 0x1000 0 ∷ place_of 0x1001 1 ∷ place_of 0x1002 2 ∷ place_of 0x1003 3 ∷ []

-- a device that comes in gets the lowest free number, and the others keep theirs though its device
-- number is the smallest: in each image one subchannel is new, with a fresh live record
pub record ADeviceComesIn : Type 0 where
  pub accepted : Performs (leaf add_0fff) (add_0fff ∷ []) base_opened
  pub numbers : entries (state_after_all (add_0fff ∷ []) base_opened).numbers
      ≡ place_of 0x0FFF 4 ∷ place_of 0x1000 0 ∷ place_of 0x1001 1 ∷ place_of 0x1002 2 ∷ place_of 0x1003 3 ∷ []
  pub altered : (cells_written_by_all (add_0fff ∷ []) base_opened).subchannels ≡ subchannel 1 4 ∷ subchannel 2 4 ∷ []
  pub live : get (state_after_all (add_0fff ∷ []) base_opened).lives (subchannel 2 4) ≡ Some (fresh 0xC0)
  pub taken_back : IsTakenBack (add_0fff ∷ []) base_opened

-- a device that leaves frees its number, and the next that comes in gets it: the subchannels of
-- this number are altered
pub record ANumberIsUsedAgain : Type 0 where
  pub accepted : Performs (row (parts_of one_for_another)) one_for_another base_opened
  pub numbers : entries (state_after_all one_for_another base_opened).numbers
      ≡ place_of 0x1000 0 ∷ place_of 0x1002 2 ∷ place_of 0x1003 3 ∷ place_of 0x2000 1 ∷ []
  pub altered : altered_between base_opened (state_after_all one_for_another base_opened)
      ≡ subchannel 1 1 ∷ subchannel 2 1 ∷ []
  pub taken_back : IsTakenBack one_for_another base_opened

-- device 2000 comes in, and these places come along with their numbers
abbrev pub with_places : List (Place × ℕ) → Edit
with_places places = record { action = add (device_on_1000 0x2000 0x04); places = places; lives = empty }

abbrev pub with_number : ℕ → Edit
with_number number = with_places (place_of 0x2000 number ∷ [])

abbrev pub with_number_twice : Edit
with_number_twice = with_places (place_of 0x2000 7 ∷ place_of 0x2000 7 ∷ [])

abbrev pub with_number_of_another : Edit
with_number_of_another = with_places (place_of 0x1000 0 ∷ [])

-- a device that comes in gets the number that comes along where it is free, and E4 refuses one that
-- is held, or that comes twice; what comes along for a device that stays says nothing
pub record ANumberComesAlong : Type 0 where
  pub accepted : Performs (leaf (with_number 7)) (with_number 7 ∷ []) base_opened
  pub numbers : entries (state_after_all (with_number 7 ∷ []) base_opened).numbers
      ≡ place_of 0x1000 0 ∷ place_of 0x1001 1 ∷ place_of 0x1002 2 ∷ place_of 0x1003 3 ∷ place_of 0x2000 7 ∷ []
  pub held : IsRefused (leaf (with_number 3)) E4 0 (at.Key (device_key 0x2000)) base_opened
  pub twice : IsRefused (leaf with_number_twice) E4 0 (at.Key (device_key 0x2000)) base_opened
  pub of_another : Performs (leaf with_number_of_another) (with_number_of_another ∷ []) base_opened
  pub its_own : get (state_after_all (with_number_of_another ∷ []) base_opened).numbers (place_of 0x2000 0).0 ≡ Some 4

-- the example deck with an image LPC and a path in channel subsystem 1, opened; and unit 1000 on
-- that path, too
abbrev pub second_subsystem : List Rec
second_subsystem = image (record { css = 1; mif = 1; name = codes "LPC" })
    ∷ path (record {
      css = 1;
      number = 0x50;
      kind = Shared;
      access = codes "LPC" ∷ [];
      candidates = [];
      carried = [];
    })
    ∷ base

unfoldable pub second_opened : State
second_opened = opening_state (configuration_of second_subsystem)

abbrev pub unit_on_both : Edit
unit_on_both = modified (unit (record {
  number = 0x1000;
  paths = css_path 0x50 ∷ css_path 0x51 ∷ record { css = 1; path = 0x50 } ∷ [];
  ranges = record { start = 0; count = 16 } ∷ [];
  links = [];
  cuadd = None;
  carried = [];
}))

-- a place and a subchannel of channel subsystem 1
abbrev pub second_place : ℕ → ℕ → Place × ℕ
second_place n number = (record { css = 1; set = 0; device = n }, number)

abbrev pub second_subchannel : ℕ → SubId
second_subchannel number = record { image = record { css = 1; mif = 1 }; set = 0; number = number }

-- each channel subsystem has numbers of its own, and a path of one alters nothing in another
pub record ASecondSubsystem : Type 0 where
  pub accepted : Performs (leaf unit_on_both) (unit_on_both ∷ []) second_opened
  pub numbers : entries (state_after_all (unit_on_both ∷ []) second_opened).numbers
      ≡ place_of 0x1000 0 ∷ place_of 0x1001 1 ∷ place_of 0x1002 2 ∷ place_of 0x1003 3
      ∷ second_place 0x1000 0 ∷ second_place 0x1001 1 ∷ second_place 0x1002 2 ∷ second_place 0x1003 3 ∷ []
  pub altered : (cells_written_by_all (unit_on_both ∷ []) second_opened).subchannels
      ≡ second_subchannel 0 ∷ second_subchannel 1 ∷ second_subchannel 2 ∷ second_subchannel 3 ∷ []
  pub taken_back : IsTakenBack (unit_on_both ∷ []) second_opened

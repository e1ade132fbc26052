-- How many subchannels a set holds where no limit is given, as it is stated by hand: 65280 in set
-- 0, 65535 in the sets 1 to 3.
use Rattle.std.specs.Prelude.{◌≡◌, ℕ, List, [], ◌∷◌, None, Option, Some}
use Rattle.std.specs.FinMap.{from_entries}
use Rattle.iocm_types.specs.declared.key.Key.TheVariants.{Device}
use Rattle.iocm_types.specs.declared.place.Place.{Place}
use Rattle.iocm_types.specs.declared.rule.Rule.TheVariants.{V13}
use Rattle.iocm_model.specs.Machine.Record.{Rec, device, limit}
use Rattle.iocm_model.specs.Machine.Configuration.{configuration_of}
use Rattle.iocm_model.specs.Machine.Numbering.{Numbering}
use Rattle.iocm_model.specs.Rules.FirstBreach.{Breach, first_breach}
use Rattle.iocm_examples.specs.BaseDeck.{base}

-- the example deck with a device 2000 of this set
abbrev pub deck_of_set : ℕ → List Rec
deck_of_set set =
    device (record {
      set = set;
      number = 0x2000;
      units = 0x1000 ∷ [];
      unit_address = 4;
      candidates = None;
      carried = [];
    })
    ∷ base

-- the device alone has a number, this one
abbrev pub number_of_2000 : ℕ → ℕ → List (Place × ℕ)
number_of_2000 set number = (record { css = 0; set = set; device = 0x2000 }, number) ∷ []

abbrev pub numbering_of_2000 : ℕ → ℕ → Numbering
numbering_of_2000 set number = from_entries (number_of_2000 set number)

-- the first breach with this number
abbrev pub breach_with : List Rec → ℕ → ℕ → Option Breach
breach_with records set number = first_breach (configuration_of records) (numbering_of_2000 set number)

-- a number is the first that the set doesn't hold, and the one before is the last that it holds
pub record Holds (records : List Rec) (set count : ℕ) (last : ℕ) : Type 0 where
  pub last_held : breach_with records set last ≡ None
  pub first_beyond : breach_with records set count ≡ Some (record { rule = V13; key = Device set 0x2000 })

-- the limits of the four sets, and that a limit of another set or channel subsystem says nothing of
-- this one
pub record LimitsOfSets : Type 0 where
  pub set_0 : Holds (deck_of_set 0) 0 65280 65279
  pub set_1 : Holds (deck_of_set 1) 1 65535 65534
  pub set_2 : Holds (deck_of_set 2) 2 65535 65534
  pub set_3 : Holds (deck_of_set 3) 3 65535 65534
  pub given : Holds (limit (record { css = 0; set = 2; limit = 7 }) ∷ deck_of_set 2) 2 7 6
  pub of_another_set : Holds (limit (record { css = 0; set = 1; limit = 7 }) ∷ deck_of_set 2) 2 65535 65534
  pub of_another_subsystem : Holds (limit (record { css = 1; set = 2; limit = 7 }) ∷ deck_of_set 2) 2 65535 65534

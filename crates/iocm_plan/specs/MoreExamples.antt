-- Objects that differ, and runs of devices, at small changes of the example deck, as they are worked by hand.
use Rattle.std.specs.Prelude.{◌≡◌, ℕ, true, false, None, List, [], ◌∷◌}
use Rattle.iocm_types.specs.declared.key.Key.TheVariants as key
use Rattle.iocm_model.specs.Machine.Configuration.{Configuration, configuration_of}
use Rattle.iocm_model.specs.Machine.Record.{Rec, device, image}
use Rattle.iocm_examples.specs.BaseDeck.{base, device_on_1000, device_record, lpa, lpb, online_record, shared_path}
use Rattle.iocm_examples.specs.BaseDeck.{path_record, unit_on}
use Rattle.iocm_plan.specs.Objects.{is_added, is_deleted, is_changed}
use Rattle.iocm_filter.specs.Wanted.{Wanted, nothing}
use Rattle.iocm_plan.specs.Runs.{runs_asked}
use Rattle.iocm_plan.specs.declared.runs.DeviceRun.{DeviceRun}

-- the example deck in which path 51 isn't online to LPA, device 1001 has unit address 08, 1003 is gone and 1005 has
-- come
abbrev pub changed_deck : List Rec
changed_deck =
    image (record { css = 0; mif = 1; name = lpa }) ∷ image (record { css = 0; mif = 2; name = lpb })
    ∷ shared_path 0x50 ∷ path_record 0x51 (lpa ∷ []) (lpa ∷ lpb ∷ []) ∷ unit_on 0x1000 (0x50 ∷ 0x51 ∷ []) None
    ∷ device (device_record 0) ∷ device_on_1000 0x1001 0x08 ∷ device (device_record 2) ∷ device_on_1000 0x1005 0x05
    ∷ online_record 0x50 lpa ∷ online_record 0x50 lpb ∷ []

abbrev pub run_of : ℕ → ℕ → DeviceRun
run_of number count = record { first = record { set = 0; number = number }; count = count }

pub record ObjectsAreAsWorked (c d : Configuration) : Type 0 where
  pub device_added : is_added c d (key.Device 0 0x1005) ≡ true
  pub device_deleted : is_deleted c d (key.Device 0 0x1003) ≡ true
  pub device_changed : is_changed c d (key.Device 0 0x1001) ≡ true
  pub device_same : is_changed c d (key.Device 0 0x1002) ≡ false
  -- its record is the same, and who is online isn't
  pub path_changed : is_changed c d (key.Path 0 0x51) ≡ true
  pub path_same : is_changed c d (key.Path 0 0x50) ≡ false
  -- a pair is no object
  pub pair : is_deleted c d (key.Online 0 0x51 lpa) ≡ false

-- the devices of set 0 from one number to another
abbrev pub by_range : ℕ → ℕ → Wanted
by_range first last = record nothing { devices = record { set = 0; first = first; last = last } ∷ [] }

pub record RunsAreAsWorked (c d : Configuration) : Type 0 where
  pub itself : runs_asked nothing c c ≡ run_of 0x1000 4 ∷ []
  pub changed : runs_asked nothing c d
      ≡ run_of 0x1000 1 ∷ run_of 0x1001 1 ∷ run_of 0x1002 1 ∷ run_of 0x1003 1 ∷ run_of 0x1005 1 ∷ []
  pub in_range : runs_asked (by_range 0x1001 0x1002) c c ≡ run_of 0x1001 2 ∷ []
  pub in_no_range : runs_asked (by_range 0x2000 0x2002) c c ≡ []

abbrev pub before : Configuration
before = configuration_of base

abbrev pub after : Configuration
after = configuration_of changed_deck

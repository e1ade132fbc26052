-- A filter with what it needs of a configuration.
use Rattle.std.specs.Prelude.{◌≡◌, ℕ, Bool}
use Rattle.std.specs.FinMap.{FinMap, contains_key, entries}
use Rattle.iocm_types.specs.Key.{key_cmp}
use Rattle.iocm_types.specs.declared.image.Image.{Image}
use Rattle.iocm_types.specs.declared.key.Key.{Key}
use Rattle.iocm_types.specs.declared.sub_id.SubId.{SubId}
use Rattle.iocm_types.specs.declared.view.View.{View}
use Rattle.iocm_model.specs.Machine.Configuration.{Configuration}
use Rattle.iocm_filter.specs.Wanted.{Wanted, Found, found_among, wants_image, wants_device, wants, wanted}

abbrev pub Keys : Type 0
Keys = FinMap key_cmp (Unit {0})

-- what is asked for, and the keys of the images that have the names, and of the devices on the control units
pub record Sieve : Type 0 where
  pub asked : Wanted
  pub keys : Keys

abbrev pub has_key : Keys → Found
has_key keys key = contains_key keys key

-- an image passes; a device of a subchannel set, by its number and by its control units; a
-- subchannel with its view
abbrev pub passes_image : Sieve → Image → Bool
passes_image s i = wants_image s.asked (has_key s.keys) i

abbrev pub passes_device : Sieve → ℕ → ℕ → Bool
passes_device s set number = wants_device s.asked (has_key s.keys) set number

abbrev pub passes : Sieve → SubId × View → Bool
passes s row = wants s.asked (has_key s.keys) row

-- a sieve for a configuration: the keys are those of its records
pub record IsSieveFor (w : Wanted) (c : Configuration) (s : Sieve) : Type 0 where
  pub asked : s.asked ≡ w
  pub keys : (key : Key) → has_key s.keys key ≡ found_among w (entries c) key

-- so just the rows that are wanted pass
abbrev pub PassesWanted : Type 0
PassesWanted = (w : Wanted) (c : Configuration) (s : Sieve) → IsSieveFor w c s
    → (row : SubId × View) → passes s row ≡ wanted w c row

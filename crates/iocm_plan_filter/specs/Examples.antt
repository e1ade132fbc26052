-- What filters leave of small configurations, as it is worked by hand.
use Rattle.std.specs.Prelude.{◌≡◌, ℕ, Bool, true, false, Option, None, Some, List, [], ◌∷◌, map}
use Rattle.iocm_types.specs.declared.image.Image.{Image}
use Rattle.iocm_types.specs.declared.key.Key.{Key}
use Rattle.iocm_types.specs.declared.key.Key.TheVariants as key
use Rattle.iocm_model.specs.Machine.Configuration.{Configuration, Lookup, configuration_of}
use Rattle.iocm_model.specs.Machine.Record.{ImageRecord, Rec, device, image}
use Rattle.iocm_examples.specs.BaseDeck.{lpa, lpb, online_record, path_record, unit_on}
use Rattle.iocm_filter.specs.Wanted.{Wanted, nothing}
use Rattle.iocm_filter.specs.declared.meant.ImageWord.TheVariants.{Named}
use Rattle.iocm_plan.specs.Examples.{lookup_among}
use Rattle.iocm_sight.specs.declared.devices.DeviceKey.{DeviceKey}
use Rattle.iocm_types.specs.declared.view.View.{View}
use Rattle.iocm_plan.specs.declared.effect.Effect.{Effect}
use Rattle.iocm_plan.specs.declared.runs.DeviceRun.{DeviceRun}
use Rattle.iocm_plan_filter.specs.declared.lost.RunEffect.{RunEffect}
use Rattle.iocm_plan_filter.specs.Connected.{is_among, is_of_image, is_of_path, is_of_unit, sees_any, way_to}
use Rattle.iocm_plan_filter.specs.Left.{is_asked}
use Rattle.iocm_plan_filter.specs.Lost.{is_in_run, is_on_way, lost_among, way_lost}

-- ---- a deck: LPA and LPB share path 50 of control unit 1000, and LPA alone has path 60 of control unit 2000; device
-- 1000 is on 1000, 1001 too, but for LPB alone, and 2000 is on 2000

abbrev pub device_on : ℕ → ℕ → Option (List (List ℕ)) → Rec
device_on number unit candidates = device (record {
  set = 0;
  number = number;
  units = unit ∷ [];
  unit_address = 0;
  candidates = candidates;
  carried = [];
})

abbrev pub others : List Rec
others = online_record 0x50 lpa ∷ online_record 0x50 lpb ∷ online_record 0x60 lpa ∷ []

abbrev pub deck_with : List Rec → List Rec
deck_with rest =
    image (record { css = 0; mif = 1; name = lpa }) ∷ image (record { css = 0; mif = 2; name = lpb })
    ∷ path_record 0x50 (lpa ∷ lpb ∷ []) [] ∷ path_record 0x60 (lpa ∷ []) []
    ∷ unit_on 0x1000 (0x50 ∷ []) None ∷ unit_on 0x2000 (0x60 ∷ []) None
    ∷ device_on 0x1000 0x1000 None ∷ device_on 0x1001 0x1000 (Some (lpb ∷ [])) ∷ rest

abbrev pub with_2000 : List Rec
with_2000 = deck_with (device_on 0x2000 0x2000 None ∷ others)

-- device 2000 is on the other control unit
abbrev pub moved_2000 : List Rec
moved_2000 = deck_with (device_on 0x2000 0x1000 None ∷ others)

-- ---- one step, and several

abbrev pub deck : Lookup
deck = lookup_among with_2000

abbrev pub image_lpa : ImageRecord
image_lpa = record { css = 0; mif = 1; name = lpa }

abbrev pub image_lpb : ImageRecord
image_lpb = record { css = 0; mif = 2; name = lpb }

-- with which of these objects an image, a control unit, or a path is connected: both images, both paths, both control
-- units, the devices, and one that isn't connected with anything
abbrev pub objects : List Key
objects = key.Image 0 1 ∷ key.Image 0 2 ∷ key.Path 0 0x50 ∷ key.Path 0 0x60 ∷ key.Unit 0x1000 ∷ key.Unit 0x2000
    ∷ key.Device 0 0x1000 ∷ key.Device 0 0x1001 ∷ key.Device 0 0x2000 ∷ key.Limit 0 0 ∷ []

abbrev pub of_image : ImageRecord → List Bool
of_image i = map (is_of_image deck i) objects

abbrev pub of_unit : ℕ → List Bool
of_unit unit = map (λ k. is_of_unit deck k unit) objects

abbrev pub of_path : Option ℕ → ℕ → List Bool
of_path css path = map (λ k. is_of_path deck k (record { css = css; path = path })) objects

abbrev pub device_at : ℕ → DeviceKey
device_at number = record { set = 0; number = number }

abbrev pub image_at : ℕ → Image
image_at mif = record { css = 0; mif = mif }

pub record StepsAreAsWorked : Type 0 where
  -- itself; it reaches both paths, and so both control units; of the devices it doesn't see 1001, which is kept from it
  pub lpa_leads : of_image image_lpa
      ≡ true ∷ false ∷ true ∷ true ∷ true ∷ true ∷ true ∷ false ∷ true ∷ false ∷ []
  -- itself; path 50, control unit 1000 and its devices
  pub lpb_leads : of_image image_lpb
      ≡ false ∷ true ∷ true ∷ false ∷ true ∷ false ∷ true ∷ true ∷ false ∷ false ∷ []
  -- both images reach a path of control unit 1000, which has path 50; devices 1000 and 1001 name it
  pub unit_1000 : of_unit 0x1000
      ≡ true ∷ true ∷ true ∷ false ∷ true ∷ false ∷ true ∷ true ∷ false ∷ false ∷ []
  pub unit_2000 : of_unit 0x2000
      ≡ true ∷ false ∷ false ∷ true ∷ false ∷ true ∷ false ∷ false ∷ true ∷ false ∷ []
  -- LPA reaches path 60, control unit 2000 has it, and device 2000 names that
  pub path_60 : of_path (Some 0) 0x60
      ≡ true ∷ false ∷ false ∷ true ∷ false ∷ true ∷ false ∷ false ∷ true ∷ false ∷ []
  pub path_of_each : of_path None 0x60
      ≡ true ∷ false ∷ false ∷ true ∷ false ∷ true ∷ false ∷ false ∷ true ∷ false ∷ []
  pub path_of_another : of_path (Some 1) 0x60
      ≡ false ∷ false ∷ false ∷ false ∷ false ∷ false ∷ false ∷ false ∷ false ∷ false ∷ []
  -- what leads to a device: itself, its control unit, and the path of that; to one that isn't there nothing leads
  pub way : way_to deck (device_at 0x2000) ≡ key.Device 0 0x2000 ∷ key.Unit 0x2000 ∷ key.Path 0 0x60 ∷ []
  pub no_way : way_to deck (device_at 0x3000) ≡ []
  -- an image sees it before or after
  pub seen : sees_any deck deck (image_at 1) (device_at 0x2000 ∷ []) ≡ true
  pub not_seen : sees_any deck deck (image_at 2) (device_at 0x2000 ∷ []) ≡ false
  pub seen_after : sees_any deck (lookup_among moved_2000) (image_at 2) (device_at 0x2000 ∷ []) ≡ true

-- ---- kinds of filters

abbrev pub by_lpb : Wanted
by_lpb = record nothing { images = Named lpb ∷ [] }

abbrev pub by_unit : ℕ → Wanted
by_unit unit = record nothing { units = unit ∷ [] }

abbrev pub by_path : ℕ → Wanted
by_path path = record nothing { paths = record { css = None; path = path } ∷ [] }

abbrev pub by_device : ℕ → Wanted
by_device number = record nothing { devices = record { set = 0; first = number; last = number } ∷ [] }

-- device 2000 moves from control unit 2000, on path 60, to 1000, on path 50
pub record KindsAreAsWorked (c d : Configuration) : Type 0 where
  -- control unit 1000 leads to it after, and 2000 before
  pub unit_after : is_asked (by_unit 0x1000) c d (key.Device 0 0x2000) ≡ true
  pub unit_before : is_asked (by_unit 0x2000) c d (key.Device 0 0x2000) ≡ true
  pub no_unit : is_asked (by_unit 0x3000) c d (key.Device 0 0x2000) ≡ false
  -- LPB sees it after
  pub image_after : is_asked by_lpb c d (key.Device 0 0x2000) ≡ true
  pub image_never : is_asked by_lpb c d (key.Path 0 0x60) ≡ false
  -- both paths lead to it, one before and one after
  pub path_before : is_asked (by_device 0x2000) c d (key.Path 0 0x60) ≡ true
  pub path_after : is_asked (by_device 0x2000) c d (key.Path 0 0x50) ≡ true
  pub no_path : is_asked (by_device 0x1000) c d (key.Path 0 0x60) ≡ false
  -- of two kinds both have to be so, one before and one after
  pub both_kinds : is_asked (record (by_unit 0x2000) { paths = record { css = None; path = 0x50 } ∷ [] }) c d
      (key.Device 0 0x2000) ≡ true
  pub one_kind : is_asked (record (by_unit 0x2000) { paths = record { css = None; path = 0x70 } ∷ [] }) c d
      (key.Device 0 0x2000) ≡ false
  -- of two values one is enough
  pub two_values : is_asked (record nothing { units = 0x3000 ∷ 0x2000 ∷ [] }) c d (key.Device 0 0x2000) ≡ true
  -- a limit isn't connected with anything, and without filters it is left
  pub limit : is_asked (by_unit 0x1000) c d (key.Limit 0 0) ≡ false
  pub unfiltered : is_asked nothing c d (key.Limit 0 0) ≡ true

-- ---- what is lost

abbrev pub run : ℕ → ℕ → DeviceRun
run number count = record { first = device_at number; count = count }

-- device 2000 is seen by path 60; it goes, it comes, and it stays
abbrev pub by_60 : View
by_60 = record { device = 0x2000; paths = 0x60 ∷ []; pim = 0x80; pam = 0x80 }

abbrev pub effect : Option View → Option View → Effect
effect b a = record { before = b; after = a; interrupted = false; offon = false }

abbrev pub counts : List Effect → List ℕ
counts es = map (λ (r : RunEffect). r.run.count) (lost_among (run 0x1000 2 ∷ run 0x2000 1 ∷ []) es)

abbrev pub way : List Key
way = key.Image 0 1 ∷ key.Device 0 0x2000 ∷ key.Unit 0x2000 ∷ key.Path 0 0x60 ∷ []

pub record LostIsAsWorked (c : Configuration) : Type 0 where
  -- of two runs that is lost which goes, and none that stays or comes
  pub goes : counts (effect (Some by_60) (Some by_60) ∷ effect (Some by_60) None ∷ []) ≡ 1 ∷ []
  pub comes : counts (effect None (Some by_60) ∷ effect (Some by_60) (Some by_60) ∷ []) ≡ []
  -- its way: the image, itself, its control unit, and the path of the view before
  pub its_way : way_lost c (image_at 1) (record { run = run 0x2000 1; effect = effect (Some by_60) None }) ≡ way
  -- both images, both paths, both control units, the devices, and a limit
  pub on_way : map (is_on_way (λ k. is_among k way) (run 0x2000 1 ∷ [])) objects
      ≡ true ∷ false ∷ false ∷ true ∷ false ∷ true ∷ false ∷ false ∷ true ∷ false ∷ []
  pub in_run : map (λ n. is_in_run 0 n (run 0x1000 2)) (0x0FFF ∷ 0x1000 ∷ 0x1001 ∷ 0x1002 ∷ [])
      ≡ false ∷ true ∷ true ∷ false ∷ []
  pub other_set : is_in_run 1 0x1000 (run 0x1000 2) ≡ false

abbrev pub before : Configuration
before = configuration_of with_2000

abbrev pub moved : Configuration
moved = configuration_of moved_2000

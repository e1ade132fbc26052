-- Differences of small configurations, as they are stated by hand.
use Rattle.std.specs.Prelude.{◌≡◌, ℕ, List, [], ◌∷◌, None, Some, codes, true, false}
use Rattle.iocm_types.specs.declared.path_kind.PathKind.TheVariants.{Shared}
use Rattle.iocm_types.specs.declared.key.Key.TheVariants as key
use Rattle.iocm_model.specs.Machine.Record.{Rec, CarriedOperand, id, resource, image, limit, path, unit, device, online}
use Rattle.iocm_model.specs.Machine.Configuration.{configuration_of}
use Rattle.iocm_model.specs.Change.Edit.{Action, add, delete, modify}
use Rattle.iocm_difference.specs.Difference.{is_end, pass_of, difference}

abbrev pub lpa : List ℕ
lpa = codes "LPA"

abbrev pub lpb : List ℕ
lpb = codes "LPB"

abbrev pub lpc : List ℕ
lpc = codes "LPC"

-- records of channel subsystem 0
abbrev pub image_of : ℕ → List ℕ → Rec
image_of mif name = image (record { css = 0; mif = mif; name = name })

abbrev pub path_of : ℕ → List (List ℕ) → Rec
path_of number names = path (record {
  css = 0;
  number = number;
  kind = Shared;
  access = names;
  candidates = names;
  carried = [];
})

-- a control unit of one path, with so many unit addresses
abbrev pub unit_of : ℕ → ℕ → ℕ → Rec
unit_of number of count = unit (record {
  number = number;
  paths = record { css = 0; path = of } ∷ [];
  ranges = record { start = 0; count = count } ∷ [];
  links = [];
  cuadd = None;
  carried = [];
})

-- a device of set 0 on one control unit
abbrev pub device_of : ℕ → ℕ → ℕ → List CarriedOperand → Rec
device_of number of address carried = device (record {
  set = 0;
  number = number;
  units = of ∷ [];
  unit_address = address;
  candidates = None;
  carried = carried;
})

abbrev pub online_of : ℕ → List ℕ → Rec
online_of number name = online (record { css = 0; path = number; name = name })

-- an operand that is carried along
abbrev pub model_3390 : CarriedOperand
model_3390 = record { keyword = Some (codes "UNIT"); text = codes "3390" }

-- two images on one path, and one device; and then the records behind the device
abbrev pub base_with : Rec → Rec → List Rec → List Rec
base_with second its_unit others =
    image_of 1 lpa ∷ second ∷ path_of 0x50 (lpa ∷ lpb ∷ []) ∷ its_unit
    ∷ device_of 0x1000 0x1000 0 [] ∷ others

abbrev pub base : List Rec
base = base_with (image_of 2 lpb) (unit_of 0x1000 0x50 16) (device_of 0x1001 0x1000 1 [] ∷ online_of 0x50 lpa ∷ [])

-- these actions are what leads from the records of one configuration to those of another
pub record Leads (old : List Rec) (actions : List Action) (new : List Rec) : Type 0 where
  pub are : difference (configuration_of old) (configuration_of new) ≡ actions

-- one record comes, goes or is modified
pub record OneRecord : Type 0 where
  pub none : Leads base [] base
  pub from_nothing : Leads [] (add (image_of 1 lpa) ∷ []) (image_of 1 lpa ∷ [])
  pub device_deleted : Leads base (delete (key.Device 0 0x1001) ∷ [])
      (base_with (image_of 2 lpb) (unit_of 0x1000 0x50 16) (online_of 0x50 lpa ∷ []))
  pub unit_modified : Leads base (modify (unit_of 0x1000 0x50 32) ∷ [])
      (base_with (image_of 2 lpb) (unit_of 0x1000 0x50 32) (device_of 0x1001 0x1000 1 [] ∷ online_of 0x50 lpa ∷ []))
  pub operand_carried : Leads base (modify (device_of 0x1001 0x1000 1 (model_3390 ∷ [])) ∷ [])
      (base_with (image_of 2 lpb) (unit_of 0x1000 0x50 16)
      (device_of 0x1001 0x1000 1 (model_3390 ∷ []) ∷ online_of 0x50 lpa ∷ []))
  pub pair_comes : Leads base (add (online_of 0x50 lpb) ∷ [])
      (base_with (image_of 2 lpb) (unit_of 0x1000 0x50 16)
      (device_of 0x1001 0x1000 1 [] ∷ online_of 0x50 lpa ∷ online_of 0x50 lpb ∷ []))
  pub pair_goes : Leads base (delete (key.Online 0 0x50 lpa) ∷ [])
      (base_with (image_of 2 lpb) (unit_of 0x1000 0x50 16) (device_of 0x1001 0x1000 1 [] ∷ []))
  pub deck_carries : Leads (id [] ∷ resource [] ∷ [])
      (modify (id (model_3390 ∷ [])) ∷ add (limit (record { css = 0; set = 1; limit = 7 })) ∷ delete key.Resource ∷ [])
      (id (model_3390 ∷ []) ∷ limit (record { css = 0; set = 1; limit = 7 }) ∷ [])

-- the lists of a path name an image that is renamed: they come first
abbrev pub ARenamedImage : Type 0
ARenamedImage = Leads
    (image_of 1 lpa ∷ image_of 2 lpb ∷ path_of 0x50 (lpa ∷ lpb ∷ []) ∷ [])
    (modify (path_of 0x50 (lpa ∷ lpc ∷ [])) ∷ modify (image_of 2 lpc) ∷ [])
    (image_of 1 lpa ∷ image_of 2 lpc ∷ path_of 0x50 (lpa ∷ lpc ∷ []) ∷ [])

-- devices move to another control unit on another path: all five passes
abbrev pub AllPasses : Type 0
AllPasses = Leads
    (image_of 1 lpa ∷ path_of 0x50 (lpa ∷ []) ∷ unit_of 0x1000 0x50 16
    ∷ device_of 0x1000 0x1000 0 [] ∷ device_of 0x1001 0x1000 1 [] ∷ online_of 0x50 lpa ∷ [])
    (delete (key.Image 0 1) ∷ delete (key.Device 0 0x1000) ∷ delete (key.Online 0 0x50 lpa)
    ∷ add (path_of 0x51 (lpb ∷ [])) ∷ add (unit_of 0x2000 0x51 16)
    ∷ modify (device_of 0x1001 0x2000 1 [])
    ∷ delete (key.Path 0 0x50) ∷ delete (key.Unit 0x1000)
    ∷ add (image_of 2 lpb) ∷ add (device_of 0x1002 0x2000 2 []) ∷ add (online_of 0x51 lpb) ∷ [])
    (image_of 2 lpb ∷ path_of 0x51 (lpb ∷ []) ∷ unit_of 0x2000 0x51 16
    ∷ device_of 0x1001 0x2000 1 [] ∷ device_of 0x1002 0x2000 2 [] ∷ online_of 0x51 lpb ∷ [])

-- which keys are ends
pub record EndsOfEachKind : Type 0 where
  pub of_id : is_end key.Id ≡ false
  pub of_resource : is_end key.Resource ≡ false
  pub of_image : is_end (key.Image 0 1) ≡ true
  pub of_limit : is_end (key.Limit 0 1) ≡ false
  pub of_path : is_end (key.Path 0 0x50) ≡ false
  pub of_unit : is_end (key.Unit 0x1000) ≡ false
  pub of_device : is_end (key.Device 0 0x1000) ≡ true
  pub of_pair : is_end (key.Online 0 0x50 lpa) ≡ true

-- the passes
pub record PassOfEachAction : Type 0 where
  pub end_goes : pass_of (delete (key.Device 0 0x1000)) ≡ 0
  pub other_comes : pass_of (add (unit_of 0x1000 0x50 16)) ≡ 1
  pub other_modified : pass_of (modify (unit_of 0x1000 0x50 16)) ≡ 1
  pub end_modified : pass_of (modify (image_of 1 lpa)) ≡ 2
  pub other_goes : pass_of (delete (key.Path 0 0x50)) ≡ 3
  pub end_comes : pass_of (add (online_of 0x50 lpa)) ≡ 4

-- What is told of paths that go off and on at small changes of the example deck, as it is worked by hand: LPA and LPB
-- share the paths 50 and 51 of control unit 1000, which has the devices 1000 to 1003; LPB is offline on 51.
-- Bytes by their codes: 10 is a line feed.
use Rattle.std.specs.Prelude.{◌≡◌, ℕ, None, Some, List, [], ◌∷◌, ◌++◌, codes}
use Rattle.std.specs.List.{flat_map}
use Rattle.iocm_types.specs.declared.key.Key.{Key}
use Rattle.iocm_types.specs.declared.key.Key.TheVariants as key
use Rattle.iocm_types.specs.declared.link.Link.TheVariants as link
use Rattle.iocm_model.specs.Machine.Record.{Rec, device}
use Rattle.iocm_examples.specs.BaseDeck.{base, device_on_1000, lpa, lpb, unit_on}
use Rattle.iocm_plan.specs.Examples.{device_1002, lookup_among, path_50_on, pchid, renamed, unit_with_links}
use Rattle.iocm_plan.specs.Seen.{side}
use Rattle.iocm_plan.specs.declared.runs.DeviceRun.{DeviceRun}
use Rattle.iocm_impact.specs.declared.named_image.NamedImage.{NamedImage}
use Rattle.iocm_objects.specs.Runs as objects
use Rattle.iocm_objects.specs.declared.object.Change.TheVariants as change
use Rattle.iocm_objects.specs.declared.object.Object.{Object}
use Rattle.iocm_objects.specs.declared.told.Told.{Told}
use Rattle.iocm_objects.specs.declared.told.Told.TheVariants as told
use Rattle.iocm_offon_text.specs.Lines.{lines_from}
use Rattle.iocm_offon.specs.Rerouted.{reasons_over_all}
use Rattle.iocm_offon_text.specs.Texts.{heading, section}
use Rattle.iocm_offon.specs.declared.reason.Reason.{Reason}

-- ---- the reasons of changes of a deck, and what is told of them

abbrev pub named : ℕ → List ℕ → NamedImage
named mif name = record { image = record { css = 0; mif = mif }; name = name }

abbrev pub images : List NamedImage
images = named 1 lpa ∷ named 2 lpb ∷ []

abbrev pub run : ℕ → ℕ → DeviceRun
run number count = record { first = record { set = 0; number = number }; count = count }

abbrev pub reasons_with : List Rec → List Rec → NamedImage → DeviceRun → List Reason
reasons_with old new i d = reasons_over_all i d (side (lookup_among old) i.image d.first.set d.first.number)
    (side (lookup_among new) i.image d.first.set d.first.number)

abbrev pub reasons_in : List Rec → List Rec → List DeviceRun → List Reason
reasons_in old new ds = flat_map (λ i. flat_map (reasons_with old new i) ds) images

abbrev pub told_of : List Rec → List Rec → List DeviceRun → List Object → List ℕ
told_of old new ds os = section images ds (lines_from images ds (reasons_in old new ds) [] (objects.runs os))

-- ---- objects, as they are told

abbrev pub changed : Key → List Told → Object
changed k ts = record { key = k; change = change.Changed; before = []; after = []; told = ts }

abbrev pub of_nothing : Key → Object
of_nothing k = changed k []

abbrev pub of_words : Key → List ℕ → List ℕ → Object
of_words k name text = changed k (told.Words name text ∷ [])

abbrev pub two_links : Object
two_links = changed (key.Unit 0x1000) (told.Words (codes "LINK") (codes "LINK 0.50 none -> **")
    ∷ told.Words (codes "LINK") (codes "LINK 0.51 none -> 05") ∷ [])

abbrev pub with_address : ℕ → ℕ → ℕ → Object
with_address number old new = changed (key.Device 0 number) (told.OtherAddress old new ∷ [])

-- a device with a device type
abbrev pub typed : ℕ → Rec
typed number = device (record {
  set = 0;
  number = number;
  units = 0x1000 ∷ [];
  unit_address = 1;
  candidates = None;
  carried = record { keyword = Some (codes "UNIT"); text = codes "3390" } ∷ [];
})

abbrev pub typed_object : ℕ → Object
typed_object number = changed (key.Device 0 number) (told.Words (codes "PARTITION") (codes "PARTITION -LPC")
    ∷ told.Words (codes "UNIT") (codes "UNIT none -> 3390") ∷ [])

-- control units 1000 and 2000 with a path each, and device 1002 on both
abbrev pub over_two : ℕ → ℕ → List Rec
over_two one other = device (record {
  set = 0;
  number = 0x1002;
  units = 0x1000 ∷ 0x2000 ∷ [];
  unit_address = 2;
  candidates = None;
  carried = [];
}) ∷ unit_on 0x1000 (one ∷ []) None ∷ unit_on 0x2000 (other ∷ []) None ∷ base

abbrev pub lines : List (List ℕ) → List ℕ
lines texts = heading ++ flat_map (λ text. text ++ 10 ∷ []) texts

-- ---- worked by hand

pub record OffOnIsToldAsWorked : Type 0 where
  -- a path with another operand
  pub channel : told_of (base) (path_50_on (pchid ∷ []) ∷ base)
      (run 0x1000 4 ∷ [])
      (of_words (key.Path 0 0x50) (codes "PCHID") (codes "PCHID none -> 120") ∷ [])
      ≡ lines (codes "~ path 0.50                  PCHID none -> 120"
      ∷ codes "    path 0.50 of 4 devices in 0.1 LPA, 0.2 LPB" ∷ [])
  -- a control unit with another CUADD leads each path another way
  pub cuadd : told_of (base) (unit_on 0x1000 (0x50 ∷ 0x51 ∷ []) (Some 1) ∷ base)
      (run 0x1000 4 ∷ [])
      (of_words (key.Unit 0x1000) (codes "CUADD") (codes "CUADD none -> 01") ∷ [])
      ≡ lines (codes "~ unit 1000                  CUADD none -> 01"
      ∷ codes "    each path of 4 devices in 0.1 LPA, 0.2 LPB" ∷ [])
  -- another link leads one path another way, and a link of two asterisks isn't told
  pub link : told_of (base) (unit_with_links (link.None ∷ link.Short 0x05 ∷ []) ∷ base)
      (run 0x1000 4 ∷ [])
      (two_links ∷ [])
      ≡ lines (codes "~ unit 1000                  LINK 0.51 none -> 05"
      ∷ codes "    path 0.51 of 4 devices in 0.1 LPA" ∷ [])
  -- the name of an image
  pub name : told_of (base) (renamed)
      (run 0x1000 4 ∷ [])
      (of_words (key.Image 0 1) (codes "name") (codes "name LPA -> QUAL") ∷ [])
      ≡ lines (codes "~ image 0.1                  name LPA -> QUAL"
      ∷ codes "    each path of 4 devices in 0.1 LPA" ∷ [])
  -- devices of which the same is told are one line, and who may use them isn't told
  pub types : told_of (base) (typed 0x1001 ∷ typed 0x1003 ∷ base)
      (run 0x1000 1 ∷ run 0x1001 1 ∷ run 0x1002 1 ∷ run 0x1003 1 ∷ [])
      (typed_object 0x1001 ∷ typed_object 0x1003 ∷ [])
      ≡ lines (codes "~ device 1001 and 1 more     UNIT none -> 3390"
      ∷ codes "    each path of 2 devices in 0.1 LPA, 0.2 LPB" ∷ [])
  -- of a run of devices only those count that are told
  pub addresses : told_of (base) (device_on_1000 0x1001 0x08 ∷ device_on_1000 0x1002 0x09 ∷ base)
      (run 0x1000 1 ∷ run 0x1001 2 ∷ run 0x1003 1 ∷ [])
      (with_address 0x1001 0x01 0x08 ∷ with_address 0x1002 0x02 0x09 ∷ [])
      ≡ lines (codes "~ device 1001-1002 (2)       UNITADD 01-02 -> 08-09"
      ∷ codes "    each path of 2 devices in 0.1 LPA, 0.2 LPB" ∷ [])
  -- one of two devices of a run
  pub part : told_of (base) (device_on_1000 0x1001 0x08 ∷ device_on_1000 0x1002 0x09 ∷ base)
      (run 0x1000 1 ∷ run 0x1001 2 ∷ run 0x1003 1 ∷ [])
      (with_address 0x1001 0x01 0x08 ∷ [])
      ≡ lines (codes "~ device 1001                UNITADD 01 -> 08"
      ∷ codes "    each path of 1 device in 0.1 LPA, 0.2 LPB" ∷ [])
  -- a device on another control unit
  pub moved : told_of (base) (unit_on 0x2000 (0x50 ∷ []) None ∷ device_1002 0x2000 lpa ∷ base)
      (run 0x1000 2 ∷ run 0x1002 1 ∷ run 0x1003 1 ∷ [])
      (of_words (key.Device 0 0x1002) (codes "CUNUMBR") (codes "CUNUMBR 1000 -> 2000") ∷ [])
      ≡ lines (codes "~ device 1002                CUNUMBR 1000 -> 2000"
      ∷ codes "    each path of 1 device in 0.1 LPA" ∷ [])
  -- control units exchange their paths under a device that has both
  pub exchanged : told_of (over_two 0x50 0x51) (over_two 0x51 0x50)
      (run 0x1002 1 ∷ [])
      (of_words (key.Unit 0x1000) (codes "PATH") (codes "PATH -0.50 +0.51")
      ∷ of_words (key.Unit 0x2000) (codes "PATH") (codes "PATH -0.51 +0.50") ∷ [])
      ≡ lines (codes "~ unit 1000                  PATH -0.50 +0.51"
      ∷ codes "    path 0.51 of 1 device in 0.1 LPA"
      ∷ codes "~ unit 2000                  PATH -0.51 +0.50"
      ∷ codes "    path 0.50 of 1 device in 0.1 LPA, 0.2 LPB" ∷ [])
  -- operands in another order
  pub otherwise : told_of (base) (path_50_on (pchid ∷ []) ∷ base)
      (run 0x1000 4 ∷ [])
      (of_nothing (key.Path 0 0x50) ∷ [])
      ≡ lines (codes "~ path 0.50                  written otherwise"
      ∷ codes "    path 0.50 of 4 devices in 0.1 LPA, 0.2 LPB" ∷ [])
  -- nothing where each path has one route
  pub nothing : told_of base (unit_on 0x1000 (0x50 ∷ 0x51 ∷ []) (Some 0) ∷ base) (run 0x1000 4 ∷ [])
      (of_words (key.Unit 0x1000) (codes "CUADD") (codes "CUADD none -> 00") ∷ []) ≡ []

-- Runs and texts that were worked by hand.
use Rattle.std.specs.Prelude.{◌≡◌, ℕ, true, false, None, Some, List, [], ◌∷◌, ◌++◌, codes}
use Rattle.std.specs.List.{flat_map}
use Rattle.iocm_types.specs.declared.key.Key.TheVariants as key
use Rattle.iocm_types.specs.declared.path_kind.PathKind.TheVariants.{Shared}
use Rattle.iocm_model.specs.Change.Edit.{Action, add, delete, modify}
use Rattle.iocm_model.specs.Machine.Configuration.{configuration_of}
use Rattle.iocm_model.specs.Machine.Record.{Rec, image, path, device, online}
use Rattle.iocm_difference_writer.specs.Comments.{starred}
use Rattle.iocm_difference_writer.specs.Runs.{goes_with, runs}
use Rattle.iocm_difference_writer.specs.Text.{difference_text}

abbrev pub lpa : List ℕ
lpa = codes "LPA"

abbrev pub lpb : List ℕ
lpb = codes "LPB"

abbrev pub image_of : ℕ → List ℕ → Rec
image_of mif name = image (record { css = 0; mif = mif; name = name })

-- a path of channel subsystem 0 that these images may use
abbrev pub path_of : ℕ → List (List ℕ) → List (List ℕ) → Rec
path_of number access candidates = path (record {
  css = 0;
  number = number;
  kind = Shared;
  access = access;
  candidates = candidates;
  carried = [];
})

-- a device on one control unit
abbrev pub device_of : ℕ → ℕ → ℕ → ℕ → Rec
device_of set number of address = device (record {
  set = set;
  number = number;
  units = of ∷ [];
  unit_address = address;
  candidates = None;
  carried = [];
})

abbrev pub online_of : ℕ → List ℕ → Rec
online_of number name = online (record { css = 0; path = number; name = name })

-- which actions go together
pub record GoTogether : Type 0 where
  pub devices : goes_with 1 (add (device_of 0 0x1000 0x1000 0)) (add (device_of 1 0x2000 0x2000 0)) ≡ true
  pub devices_modified : goes_with 1 (modify (device_of 0 0x1000 0x1000 0)) (modify (device_of 0 0x1001 0x1000 1))
      ≡ true
  pub other_verbs : goes_with 1 (add (device_of 0 0x1000 0x1000 0)) (modify (device_of 0 0x1001 0x1000 1)) ≡ false
  pub deleted : goes_with 1 (delete (key.Device 0 0x1000)) (delete (key.Device 0 0x1001)) ≡ true
  pub with_a_gap : goes_with 1 (delete (key.Device 0 0x1000)) (delete (key.Device 0 0x1002)) ≡ false
  pub of_other_sets : goes_with 1 (delete (key.Device 0 0x1000)) (delete (key.Device 1 0x1001)) ≡ false
  pub last_of_many : goes_with 4095 (delete (key.Device 0 0x1FFE)) (delete (key.Device 0 0x1FFF)) ≡ true
  pub one_too_many : goes_with 4096 (delete (key.Device 0 0x1FFF)) (delete (key.Device 0 0x2000)) ≡ false
  pub any_number_put : goes_with 4096 (add (device_of 0 0x1FFF 0x1000 0)) (add (device_of 0 0x2000 0x1000 0)) ≡ true
  pub pairs : goes_with 1 (add (online_of 0x50 lpa)) (add (online_of 0x50 lpb)) ≡ true
  pub pairs_deleted : goes_with 1 (delete (key.Online 0 0x50 lpa)) (delete (key.Online 0 0x50 lpb)) ≡ true
  pub of_other_paths : goes_with 1 (add (online_of 0x50 lpa)) (add (online_of 0x51 lpb)) ≡ false
  pub of_other_subsystems : goes_with 1 (delete (key.Online 0 0x50 lpa)) (delete (key.Online 1 0x50 lpb)) ≡ false
  pub in_another_order : goes_with 1 (add (online_of 0x50 lpb)) (add (online_of 0x50 lpa)) ≡ false
  pub images : goes_with 1 (add (image_of 1 lpa)) (add (image_of 2 lpb)) ≡ false

-- three devices, of which two go together
abbrev pub RunsOfThree : Type 0
RunsOfThree =
    runs (delete (key.Device 0 0x1000) ∷ delete (key.Device 0 0x1001) ∷ delete (key.Device 0 0x1003) ∷ [])
    ≡ (delete (key.Device 0 0x1000) ∷ delete (key.Device 0 0x1001) ∷ []) ∷ (delete (key.Device 0 0x1003) ∷ []) ∷ []

-- lines as they are printed
abbrev pub printed : List (List ℕ) → List ℕ
printed lines = flat_map (λ line. line ++ 10 ∷ []) lines

-- what stands in one statement, and what doesn't
abbrev pub TextOfRuns : Type 0
TextOfRuns =
    difference_text None
    (delete (key.Device 0 0x1003) ∷ delete (key.Device 0 0x1004) ∷ delete (key.Device 1 0x1005)
    ∷ delete (key.Online 0 0x50 lpb)
    ∷ modify (device_of 0 0x1002 0x1000 8)
    ∷ delete (key.Image 0 2)
    ∷ add (device_of 0 0x2000 0x2000 0x10) ∷ add (device_of 0 0x2001 0x2000 0x11) ∷ add (device_of 0 0x2003 0x2000 0x13)
    ∷ add (online_of 0x51 lpa) ∷ add (online_of 0x51 lpb) ∷ add (online_of 0x52 lpb) ∷ [])
    ≡ printed
    (codes "DELETE   IODEVICE ADDRESS=(1003,2)"
    ∷ codes "DELETE   IODEVICE ADDRESS=(1005,1),SCHSET=1"
    ∷ codes "DELETE   ONLINE PATH=(CSS(0),50),PARTITION=(LPB)"
    ∷ codes "MODIFY   IODEVICE ADDRESS=(1002,1),CUNUMBR=(1000),UNITADD=08"
    ∷ codes "DELETE   RESOURCE PARTITION=((CSS(0),(*,2)))"
    ∷ codes "ADD      IODEVICE ADDRESS=(2000,2),CUNUMBR=(2000),UNITADD=10"
    ∷ codes "ADD      IODEVICE ADDRESS=(2003,1),CUNUMBR=(2000),UNITADD=13"
    ∷ codes "ADD      ONLINE PATH=(CSS(0),51),PARTITION=(LPA,LPB)"
    ∷ codes "ADD      ONLINE PATH=(CSS(0),52),PARTITION=(LPB)" ∷ [])

-- a path to one image, and two devices
abbrev pub old_records : List Rec
old_records =
    path_of 0x51 (lpa ∷ []) (lpa ∷ lpb ∷ []) ∷ device_of 0 0x1002 0x1000 2 ∷ device_of 0 0x1003 0x1000 3 ∷ []

-- one device goes, another comes, and the path is online to a second image
abbrev pub some_changes : List Action
some_changes =
    delete (key.Device 0 0x1003)
    ∷ modify (path_of 0x51 (lpa ∷ lpb ∷ []) (lpa ∷ lpb ∷ []))
    ∷ modify (device_of 0 0x1002 0x1000 8)
    ∷ add (device_of 0 0x2000 0x1000 9)
    ∷ add (online_of 0x51 lpb) ∷ []

-- what was there stands before what is deleted and what is modified
abbrev pub TextWithOld : Type 0
TextWithOld =
    difference_text (Some (configuration_of old_records)) some_changes
    ≡ printed
    (codes "*        IODEVICE ADDRESS=(1003,1),CUNUMBR=(1000),UNITADD=03"
    ∷ codes "DELETE   IODEVICE ADDRESS=(1003,1)"
    ∷ codes "*        CHPID PATH=(CSS(0),51),SHARED,PARTITION=((LPA),(LPA,LPB))"
    ∷ codes "MODIFY   CHPID PATH=(CSS(0),51),SHARED,PARTITION=((LPA,LPB),(LPA,LPB))"
    ∷ codes "*        IODEVICE ADDRESS=(1002,1),CUNUMBR=(1000),UNITADD=02"
    ∷ codes "MODIFY   IODEVICE ADDRESS=(1002,1),CUNUMBR=(1000),UNITADD=08"
    ∷ codes "ADD      IODEVICE ADDRESS=(2000,1),CUNUMBR=(1000),UNITADD=09"
    ∷ codes "ADD      ONLINE PATH=(CSS(0),51),PARTITION=(LPB)" ∷ [])

-- each line of a comment has its own *
abbrev pub EachLineStarred : Type 0
EachLineStarred = starred (printed (codes " A      X" ∷ codes "   B" ∷ []))
    ≡ printed (codes "*A      X" ∷ codes "*  B" ∷ [])

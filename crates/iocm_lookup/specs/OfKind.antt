-- Of which kind the records are that a test can pass.
use Rattle.std.specs.Prelude.{◌≡◌, Bool, true, false, List}
use Rattle.std.proofs.Common.{refl}
use Rattle.iocm_model.specs.Machine.Record.{Rec, CarriedOperand, ImageRecord, LimitRecord, PathRecord}
use Rattle.iocm_model.specs.Machine.Record.{UnitRecord, DeviceRecord, OnlineRecord, id, resource}
use Rattle.iocm_model.specs.Machine.Record.{image, limit, path, unit, device, online, key_of}
use Rattle.iocm_lookup.specs.Kinds.{kind_of}

-- no other records pass
abbrev pub NoIds : (Rec → Bool) → Type 0
NoIds test = (x : List CarriedOperand) → test (id x) ≡ false

abbrev pub NoResources : (Rec → Bool) → Type 0
NoResources test = (x : List CarriedOperand) → test (resource x) ≡ false

abbrev pub NoImages : (Rec → Bool) → Type 0
NoImages test = (x : ImageRecord) → test (image x) ≡ false

abbrev pub NoLimits : (Rec → Bool) → Type 0
NoLimits test = (x : LimitRecord) → test (limit x) ≡ false

abbrev pub NoPaths : (Rec → Bool) → Type 0
NoPaths test = (x : PathRecord) → test (path x) ≡ false

abbrev pub NoUnits : (Rec → Bool) → Type 0
NoUnits test = (x : UnitRecord) → test (unit x) ≡ false

abbrev pub NoDevices : (Rec → Bool) → Type 0
NoDevices test = (x : DeviceRecord) → test (device x) ≡ false

abbrev pub NoOnline : (Rec → Bool) → Type 0
NoOnline test = (x : OnlineRecord) → test (online x) ≡ false

pub only_images : (test : Rec → Bool) → NoIds test → NoResources test → NoLimits test → NoPaths test
    → NoUnits test → NoDevices test → NoOnline test
    → (r : Rec) → test r ≡ true → kind_of (key_of r) ≡ 2
only_images test a b c d e f g (id x) h = let no = a x in cc
only_images test a b c d e f g (resource x) h = let no = b x in cc
only_images test a b c d e f g (image x) h = refl
only_images test a b c d e f g (limit x) h = let no = c x in cc
only_images test a b c d e f g (path x) h = let no = d x in cc
only_images test a b c d e f g (unit x) h = let no = e x in cc
only_images test a b c d e f g (device x) h = let no = f x in cc
only_images test a b c d e f g (online x) h = let no = g x in cc

pub only_paths : (test : Rec → Bool) → NoIds test → NoResources test → NoImages test → NoLimits test
    → NoUnits test → NoDevices test → NoOnline test
    → (r : Rec) → test r ≡ true → kind_of (key_of r) ≡ 4
only_paths test a b c d e f g (id x) h = let no = a x in cc
only_paths test a b c d e f g (resource x) h = let no = b x in cc
only_paths test a b c d e f g (image x) h = let no = c x in cc
only_paths test a b c d e f g (limit x) h = let no = d x in cc
only_paths test a b c d e f g (path x) h = refl
only_paths test a b c d e f g (unit x) h = let no = e x in cc
only_paths test a b c d e f g (device x) h = let no = f x in cc
only_paths test a b c d e f g (online x) h = let no = g x in cc

pub only_units : (test : Rec → Bool) → NoIds test → NoResources test → NoImages test → NoLimits test
    → NoPaths test → NoDevices test → NoOnline test
    → (r : Rec) → test r ≡ true → kind_of (key_of r) ≡ 5
only_units test a b c d e f g (id x) h = let no = a x in cc
only_units test a b c d e f g (resource x) h = let no = b x in cc
only_units test a b c d e f g (image x) h = let no = c x in cc
only_units test a b c d e f g (limit x) h = let no = d x in cc
only_units test a b c d e f g (path x) h = let no = e x in cc
only_units test a b c d e f g (unit x) h = refl
only_units test a b c d e f g (device x) h = let no = f x in cc
only_units test a b c d e f g (online x) h = let no = g x in cc

pub only_devices : (test : Rec → Bool) → NoIds test → NoResources test → NoImages test → NoLimits test
    → NoPaths test → NoUnits test → NoOnline test
    → (r : Rec) → test r ≡ true → kind_of (key_of r) ≡ 6
only_devices test a b c d e f g (id x) h = let no = a x in cc
only_devices test a b c d e f g (resource x) h = let no = b x in cc
only_devices test a b c d e f g (image x) h = let no = c x in cc
only_devices test a b c d e f g (limit x) h = let no = d x in cc
only_devices test a b c d e f g (path x) h = let no = e x in cc
only_devices test a b c d e f g (unit x) h = let no = f x in cc
only_devices test a b c d e f g (device x) h = refl
only_devices test a b c d e f g (online x) h = let no = g x in cc

pub only_online : (test : Rec → Bool) → NoIds test → NoResources test → NoImages test → NoLimits test
    → NoPaths test → NoUnits test → NoDevices test
    → (r : Rec) → test r ≡ true → kind_of (key_of r) ≡ 7
only_online test a b c d e f g (id x) h = let no = a x in cc
only_online test a b c d e f g (resource x) h = let no = b x in cc
only_online test a b c d e f g (image x) h = let no = c x in cc
only_online test a b c d e f g (limit x) h = let no = d x in cc
only_online test a b c d e f g (path x) h = let no = e x in cc
only_online test a b c d e f g (unit x) h = let no = f x in cc
only_online test a b c d e f g (device x) h = let no = g x in cc
only_online test a b c d e f g (online x) h = refl

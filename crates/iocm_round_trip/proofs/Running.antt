-- The runs of devices stand for the devices, are apart, and are given where the devices are.
use Rattle.std.proofs.Common.{◌≡◌, ◌∙◌, ◌+◌, ◌++◌, ◌<◌, Bool, true, false, if◌then◌else◌, List, [], ◌∷◌, All, refl, sym}
use Rattle.std.proofs.Common.{ap, subst, append_assoc, arith}
use Rattle.std.proofs.lemmas.List.Elements.{All-nil, All-cons, All-head, All-tail}
use Rattle.std.proofs.lemmas.List.FromFn.{map-range_with_len_more}
use Rattle.std.specs.List.{flat_map}
use Rattle.iocm_model.specs.Machine.Record.{DeviceRecord}
use Rattle.iocm_deck_writer.specs.Device.{Run, continues, runs_from}
use Rattle.iocm_round_trip.specs.Given.{IsGivenDevice}
use Rattle.iocm_round_trip.specs.Running.{device_at, run_devices, IsGivenRun, AreApart, AreRunsOfDevices, AreMaximal}
use Rattle.iocm_round_trip.specs.Running.{AreGivenRuns}
use Rattle.iocm_round_trip.proofs.Alike.{next_device}

-- a run that is longer by one device, and the run of one device
abbrev longer : Run → Run
longer r = record { first = r.first; count = r.count + 1 }

abbrev alone : DeviceRecord → Run
alone d = record { first = d; count = 1 }

-- ---- the runs stand for the devices

devices_alone : (d : DeviceRecord) → run_devices (alone d) ≡ d ∷ []
devices_alone d =
    let number : d.number + 0 ≡ d.number = omega arith in
    let address : d.unit_address + 0 ≡ d.unit_address = omega arith in
    λ i. (record d { number = number i; unit_address = address i }) ∷ []

devices_longer : (r : Run) (d : DeviceRecord) → continues r d ≡ true → run_devices (longer r) ≡ run_devices r ++ d ∷ []
devices_longer r d goes_on =
    map-range_with_len_more (device_at r.first) 0 r.count r.count (omega arith)
    ∙ ap (λ x. run_devices r ++ x ∷ []) (next_device r d goes_on)

devices_from : (r : Run) (ds : List DeviceRecord) → flat_map run_devices (runs_from r ds) ≡ run_devices r ++ ds
devices_from r [] = refl
devices_from r (d ∷ ds) = by (continues r d) refl (devices_from (longer r) ds) (devices_from (alone d) ds)
  where
    by : (b : Bool) → continues r d ≡ b → flat_map run_devices (runs_from (longer r) ds) ≡ run_devices (longer r) ++ ds
        → flat_map run_devices (runs_from (alone d) ds) ≡ run_devices (alone d) ++ ds
        → flat_map run_devices (if b then runs_from (longer r) ds else r ∷ runs_from (alone d) ds) ≡ run_devices r
        ++ d ∷ ds
    by true goes_on more next =
        more ∙ ap (λ x. x ++ ds) (devices_longer r d goes_on) ∙ append_assoc (run_devices r) (d ∷ []) ds
    by false ends more next = ap (λ x. run_devices r ++ x) (next ∙ ap (λ x. x ++ ds) (devices_alone d))

pub are_runs_of_devices : AreRunsOfDevices
are_runs_of_devices [] = refl
are_runs_of_devices (d ∷ ds) = devices_from (alone d) ds ∙ ap (λ x. x ++ ds) (devices_alone d)

-- ---- the runs are apart

-- a run in front of those from another one on, whose first device doesn't continue it
apart_before : (r s : Run) (ds : List DeviceRecord) → continues r s.first ≡ false → AreApart (runs_from s ds)
    → AreApart (r ∷ runs_from s ds)
apart_before r s [] ends apart = (ends, tt)
apart_before r s (d ∷ ds) ends apart = by (continues s d) apart (apart_before r (longer s) ds ends)
  where
    by : (b : Bool) → AreApart (if b then runs_from (longer s) ds else s ∷ runs_from (alone d) ds)
        → (AreApart (runs_from (longer s) ds) → AreApart (r ∷ runs_from (longer s) ds))
        → AreApart (r ∷ (if b then runs_from (longer s) ds else s ∷ runs_from (alone d) ds))
    by true apart more = more apart
    by false apart more = (ends, apart)

apart_from : (r : Run) (ds : List DeviceRecord) → AreApart (runs_from r ds)
apart_from r [] = tt
apart_from r (d ∷ ds) = by (continues r d) refl (apart_from (longer r) ds) (apart_from (alone d) ds)
  where
    by : (b : Bool) → continues r d ≡ b → AreApart (runs_from (longer r) ds) → AreApart (runs_from (alone d) ds)
        → AreApart (if b then runs_from (longer r) ds else r ∷ runs_from (alone d) ds)
    by true goes_on more next = more
    by false ends more next = apart_before r (alone d) ds ends next

pub are_maximal : AreMaximal
are_maximal [] = tt
are_maximal (d ∷ ds) = apart_from (alone d) ds

-- ---- the runs of given devices are given

given_alone : (d : DeviceRecord) → IsGivenDevice d → IsGivenRun (alone d)
given_alone d is = record {
  first = is;
  some = omega arith;
  numbers = omega (arith, is.number);
  addresses = omega (arith, is.unit_address);
}

given_longer : (r : Run) (d : DeviceRecord) → continues r d ≡ true → IsGivenRun r → IsGivenDevice d
    → IsGivenRun (longer r)
given_longer r d goes_on run is =
    let next = next_device r d goes_on in
    let number : r.first.number + r.count < 65536 =
    subst (λ (x : DeviceRecord). x.number < 65536) (sym next) is.number in
    let address : r.first.unit_address + r.count < 256 =
    subst (λ (x : DeviceRecord). x.unit_address < 256) (sym next) is.unit_address in
    record {
      first = run.first;
      some = omega arith;
      numbers = omega (arith, number);
      addresses = omega (arith, address);
    }

given_from : (r : Run) (ds : List DeviceRecord) → IsGivenRun r → All IsGivenDevice ds → All IsGivenRun (runs_from r ds)
given_from r [] run are = All-cons IsGivenRun r [] run (All-nil IsGivenRun)
given_from r (d ∷ ds) run are =
    let is = All-head IsGivenDevice d ds are in
    let others = All-tail IsGivenDevice d ds are in
    by (continues r d) refl is (λ more. given_from (longer r) ds more others)
    (given_from (alone d) ds (given_alone d is) others)
  where
    by : (b : Bool) → continues r d ≡ b → IsGivenDevice d
        → (IsGivenRun (longer r) → All IsGivenRun (runs_from (longer r) ds))
        → All IsGivenRun (runs_from (alone d) ds)
        → All IsGivenRun (if b then runs_from (longer r) ds else r ∷ runs_from (alone d) ds)
    by true goes_on is more next = more (given_longer r d goes_on run is)
    by false ends is more next = All-cons IsGivenRun r (runs_from (alone d) ds) run next

pub are_given_runs : AreGivenRuns
are_given_runs [] are = All-nil IsGivenRun
are_given_runs (d ∷ ds) are =
    given_from (alone d) ds (given_alone d (All-head IsGivenDevice d ds are)) (All-tail IsGivenDevice d ds are)

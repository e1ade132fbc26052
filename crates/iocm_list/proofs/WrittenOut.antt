-- Runs written out are the devices of which they were made.
use Rattle.std.proofs.Common.{◌≡◌, ◌+◌, ◌==◌, ◌&&◌, Bool, true, false, cond, List, [], ◌∷◌, ◌++◌, map, filter}
use Rattle.std.proofs.Common.{refl, sym, ap, ◌∙◌, append_assoc, add-zero, zero-add}
use Rattle.std.specs.List.{flat_map, range_with_len}
use Rattle.std.proofs.lemmas.Bool.{and_parts, eqb-true}
use Rattle.std.proofs.lemmas.List.FromFn.{map-range_with_len_more}
use Rattle.iocm_model.specs.Machine.Configuration.{Configuration, devices_of, images_of}
use Rattle.iocm_model.specs.Machine.Record.{DeviceRecord}
use Rattle.iocm_filter.specs.Wanted.{Wanted, nothing}
use Rattle.iocm_deck_writer.specs.Device.{Run, are_alike, continues, runs, runs_from}
use Rattle.iocm_list.specs.AllDevices.{AllImagesAreListed, RowsAreTheDevices, devices_in, in_ranges}
use Rattle.iocm_sight.specs.Connected.{own_key}
use Rattle.iocm_list.specs.DeviceRows.{device_row, is_listed}
use Rattle.iocm_list.specs.ImageRows.{image_row, is_image_listed}
use Rattle.iocm_sight.specs.WantedRows.{wants_number}
use Rattle.iocm_sight.specs.declared.devices.DeviceKey.{DeviceKey}
use Rattle.iocm_sight.proofs.Alike.{continues_alike}

keys_in : Run → List DeviceKey
keys_in r = map (λ k. record { set = r.first.set; number = r.first.number + k }) (range_with_len 0 r.count)

number_is : (r : Run) (d : DeviceRecord) → continues r d ≡ true → d.number ≡ r.first.number + r.count
number_is r d goes_on = eqb-true d.number (r.first.number + r.count) (and_parts (d.number == r.first.number + r.count)
    (d.unit_address == r.first.unit_address + r.count) (and_parts
    (d.number == r.first.number + r.count && d.unit_address == r.first.unit_address + r.count)
    (are_alike r.first d) goes_on).0).0

-- one device more
longer : (r : Run) (d : DeviceRecord) → continues r d ≡ true
    → keys_in (record { first = r.first; count = r.count + 1 }) ≡ keys_in r ++ own_key d ∷ []
unfolding keys_in
longer r d goes_on =
    map-range_with_len_more _ 0 r.count r.count (zero-add r.count)
    ∙ (λ i. keys_in r ++ record {
      set = (continues_alike r d goes_on).set i;
      number = sym (number_is r d goes_on) i;
    } ∷ [])

-- one alone
alone : (d : DeviceRecord) → keys_in (record { first = d; count = 1 }) ≡ own_key d ∷ []
unfolding keys_in
alone d = λ i. record { set = d.set; number = add-zero d.number i } ∷ []

written_from : (r : Run) (ds : List DeviceRecord) → flat_map keys_in (runs_from r ds) ≡ keys_in r ++ map own_key ds
written_from r [] = refl
written_from r (d ∷ ds) =
    by (continues r d) refl (written_from (record { first = r.first; count = r.count + 1 }) ds)
    (written_from (record { first = d; count = 1 }) ds)
  where
    by : (b : Bool) → continues r d ≡ b
        → flat_map keys_in (runs_from (record { first = r.first; count = r.count + 1 }) ds)
        ≡ keys_in (record { first = r.first; count = r.count + 1 }) ++ map own_key ds
        → flat_map keys_in (runs_from (record { first = d; count = 1 }) ds)
        ≡ keys_in (record { first = d; count = 1 }) ++ map own_key ds
        → flat_map keys_in (cond b (runs_from (record { first = r.first; count = r.count + 1 }) ds)
        (r ∷ runs_from (record { first = d; count = 1 }) ds)) ≡ keys_in r ++ (own_key d ∷ map own_key ds)
    by true is more next = more ∙ ap (λ keys. keys ++ map own_key ds) (longer r d is)
        ∙ append_assoc (keys_in r) (own_key d ∷ []) (map own_key ds)
    by false is more next = ap (λ keys. keys_in r ++ keys) (next ∙ ap (λ keys. keys ++ map own_key ds) (alone d))

written_out : (ds : List DeviceRecord) → flat_map keys_in (runs ds) ≡ map own_key ds
written_out [] = refl
written_out (d ∷ ds) = written_from (record { first = d; count = 1 }) ds ∙ ap (λ keys. keys ++ map own_key ds) (alone d)

-- where all pass, all are left
all_left : {X : Type 0} (p : X → Bool) → ((x : X) → p x ≡ true) → (xs : List X) → filter p xs ≡ xs
all_left p pass [] = refl
all_left p pass (x ∷ xs) =
    ap (λ b. cond b (x ∷ filter p xs) (filter p xs)) (pass x) ∙ ap (λ l. x ∷ l) (all_left p pass xs)

rows_written : (w : Wanted) (c : Configuration) (rs : List Run)
    → flat_map devices_in (map (device_row w c) rs) ≡ flat_map keys_in rs
unfolding keys_in
rows_written w c [] = refl
rows_written w c (r ∷ rs) = ap (λ keys. keys_in r ++ keys) (rows_written w c rs)

pub rows_are_the_devices : RowsAreTheDevices
rows_are_the_devices c ranges =
    let w = in_ranges ranges in
    let rs = runs (filter (wants_number w) (devices_of c)) in
    ap (flat_map devices_in) (all_left (is_listed w) (λ r. refl) (map (device_row w c) rs))
    ∙ rows_written w c rs ∙ written_out (filter (wants_number w) (devices_of c))

pub all_images : AllImagesAreListed
all_images c online =
    ap (map (image_row c)) (all_left (is_image_listed (record nothing { online = online }) c) (λ i. refl) (images_of c))

pub ruleset all_devices = (rows_are_the_devices, all_images)

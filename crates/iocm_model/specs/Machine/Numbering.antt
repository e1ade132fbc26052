-- Subchannel numbers: in each channel subsystem and subchannel set the devices that are reached
-- there have one each, the same in every image of the channel subsystem.
use Rattle.std.specs.Prelude.{◌≡◌, ℕ, ◌+◌, ◌==◌, ◌&&◌, Bool, true, false, not, List, [], ◌∷◌, map, filter, Option, Some}
use Rattle.std.specs.List.{flat_map, list_any}
use Rattle.std.specs.Ordering.{eq_by_cmp}
use Rattle.std.specs.FinMap.{FinMap, get, entries, from_entries, contains_key}
use Rattle.iocm_types.specs.declared.place.Place.{Place}
use Rattle.iocm_types.specs.declared.place.NumberCell.{NumberCell}
use Rattle.iocm_types.specs.Place.{place_cmp, cell_cmp}
use Rattle.iocm_model.specs.Machine.Record.{Rec, DeviceRecord, device}
use Rattle.iocm_model.specs.Machine.Configuration.{Configuration, Lookup, lookup_of, devices_of}
use Rattle.iocm_model.specs.Machine.PathList.{path_list}

-- the channel subsystems, and the subchannel sets of each
abbrev pub subsystems : List ℕ
subsystems = 0 ∷ 1 ∷ 2 ∷ 3 ∷ 4 ∷ 5 ∷ []

abbrev pub sets : List ℕ
sets = 0 ∷ 1 ∷ 2 ∷ 3 ∷ []

-- the number of a device at its place
abbrev pub Numbering : Type 0
Numbering = FinMap place_cmp ℕ

abbrev pub is_empty : {A : Type 0} → List A → Bool
is_empty [] = true
is_empty (x ∷ xs) = false

-- whether a channel subsystem reaches a device: its path list there isn't empty
abbrev pub is_reached : Lookup → ℕ → DeviceRecord → Bool
is_reached c css d = not (is_empty (path_list c css d.units))

-- whether there is such a device of the set, and it is reached
abbrev pub is_record_reached : Lookup → ℕ → Option Rec → Bool
is_record_reached c css (Some (device d)) = is_reached c css d
is_record_reached c css _ = false

-- the devices of a set that are reached, in the order of their numbers
abbrev pub reached_devices : Configuration → ℕ → ℕ → List ℕ
reached_devices c css set =
    map (λ (d : DeviceRecord). d.number)
    (filter (λ (d : DeviceRecord). d.set == set && is_reached (lookup_of c) css d) (devices_of c))

-- the places of all devices that are reached, by channel subsystem, set and device number
abbrev pub reached_places : Configuration → List Place
reached_places c =
    flat_map
    (λ css. flat_map
    (λ set. map (λ d. record { css = css; set = set; device = d }) (reached_devices c css set)) sets)
    subsystems

-- whether a place is that of a device that is reached
abbrev pub is_reached_at : Configuration → Place → Bool
is_reached_at c p = list_any (eq_by_cmp place_cmp p) (reached_places c)

-- numbers from n on, one after the other
abbrev pub numbers_from : ℕ → ℕ → ℕ → List ℕ → List (Place × ℕ)
numbers_from css set n [] = []
numbers_from css set n (d ∷ ds) = (record { css = css; set = set; device = d }, n) ∷ numbers_from css set (n + 1) ds

-- at opening: 0, 1, 2, .. in order of device number, in each channel subsystem and set
abbrev pub opening : Configuration → Numbering
opening c =
    from_entries
    (flat_map (λ css. flat_map (λ set. numbers_from css set 0 (reached_devices c css set)) sets) subsystems)

-- the number cells: which device each number is
abbrev pub cells_of : Numbering → FinMap cell_cmp ℕ
cells_of n =
    from_entries (map (λ (e : Place × ℕ). (record { css = e.0.css; set = e.0.set; number = e.1 }, e.0.device))
    (entries n))

-- the device that has a number
abbrev pub device_at : Numbering → NumberCell → Option ℕ
device_at n cell = get (cells_of n) cell

-- the numbering in which these cells are given away
abbrev pub numbering_of : FinMap cell_cmp ℕ → Numbering
numbering_of cells =
    from_entries (map
    (λ (e : NumberCell × ℕ). (record { css = e.0.css; set = e.0.set; device = e.1 }, e.0.number))
    (entries cells))

-- the numbers of a configuration: exactly the devices that a channel subsystem reaches have one
-- there, and no number comes twice in one channel subsystem and set
pub record AreNumbersOf (c : Configuration) (n : Numbering) : Type 0 where
  pub exact : (p : Place) → contains_key n p ≡ is_reached_at c p
  pub apart : (p q : Place) (number : ℕ) → p.css ≡ q.css → p.set ≡ q.set → get n p ≡ Some number
      → get n q ≡ Some number → p ≡ q

-- Subchannel numbers after a change of the configuration.
use Rattle.std.specs.Prelude.{ℕ, ◌+◌, ◌==◌, ◌&&◌, nat_eq, Bool, not, if◌then◌else◌, List, [], ◌∷◌, map, filter, fold}
use Rattle.std.specs.FinMap.{insert, entries, contains_key, retain_keys}
use Rattle.iocm_types.specs.declared.place.Place.{Place}
use Rattle.iocm_types.specs.declared.place.NumberCell.{NumberCell}
use Rattle.iocm_model.specs.Machine.Configuration.{Configuration}
use Rattle.iocm_model.specs.Machine.Numbering.{Numbering, reached_places, is_reached_at, cells_of}

-- the numbers that are given away in a channel subsystem and set, rising
abbrev pub numbers_in : Numbering → ℕ → ℕ → List ℕ
numbers_in n css set = map (λ (e : NumberCell × ℕ). e.0.number)
    (filter (λ (e : NumberCell × ℕ). e.0.css == css && e.0.set == set) (entries (cells_of n)))

-- the first number from a given one on that these rising numbers leave out
unfoldable pub gap_from : ℕ → List ℕ → ℕ
gap_from n [] = n
gap_from n (x ∷ xs) = if nat_eq x n then gap_from (n + 1) xs else n

-- the lowest number that is free in a channel subsystem and set
abbrev pub lowest_free : Numbering → ℕ → ℕ → ℕ
lowest_free n css set = gap_from 0 (numbers_in n css set)

-- those that leave lose their number; those that stay keep theirs
abbrev pub without_leavers : Configuration → Numbering → Numbering
without_leavers c n = retain_keys n (is_reached_at c)

-- a device that the configuration reaches at a place, and that has no number there yet
abbrev pub comes_in : Configuration → Numbering → Place × ℕ → Bool
comes_in c n carried = is_reached_at c carried.0 && not (contains_key n carried.0)

-- a device that comes in and has a place carried along gets it
abbrev pub with_carried : Configuration → Numbering → Place × ℕ → Numbering
with_carried c n carried = if comes_in c n carried then insert n carried.0 carried.1 else n

-- a device that comes in without one gets the lowest free number
abbrev pub with_lowest : Numbering → Place → Numbering
with_lowest n p = if contains_key n p then n else insert n p (lowest_free n p.css p.set)

-- the numbers after the configuration has become c: leavers, then carried places, then the rest in
-- order of device number, which avoid the places just carried
abbrev pub numbers_after : Configuration → List (Place × ℕ) → Numbering → Numbering
numbers_after c carried n = fold with_lowest (fold (with_carried c) (without_leavers c n) carried) (reached_places c)

-- The number cells of numbers: a new number is a new number cell.
use Rattle.std.proofs.Common.{◌≡◌, ℕ, List, [], None, ap, map as list_map}
use Rattle.std.specs.FinMap as map
use Rattle.iocm_types.specs.declared.place.Place.{Place}
use Rattle.iocm_types.specs.declared.place.NumberCell.{NumberCell}
use Rattle.iocm_types.specs.Place.{place_cmp, cell_cmp}
use Rattle.iocm_types.specs.KeyOrder.{places_total, cells_total, cells_exact}
use Rattle.iocm_types.proofs.Mapped.{mapped-insert}
use Rattle.iocm_model.specs.Machine.Numbering.{Numbering, cells_of, device_at}
use Rattle.iocm_numbers.specs.Numbered.{cell_at}

-- the number cell of a place's number, with the device
abbrev pub turned : Place × ℕ → NumberCell × ℕ
turned e = (record { css = e.0.css; set = e.0.set; number = e.1 }, e.0.device)

-- no numbers, no number cells
pub no_cells : cells_of (map.from_sorted []) ≡ map.empty
no_cells = ap (λ (es : List (Place × ℕ)). map.from_entries {R = cell_cmp} (list_map turned es))
    (map.entries-from_sorted place_cmp [] tt)

-- a new number is a new number cell
pub cells_insert : (n : Numbering) (place : Place) (number : ℕ) → map.get n place ≡ None
    → device_at n (cell_at place number) ≡ None
    → cells_of (map.insert n place number) ≡ map.insert (cells_of n) (cell_at place number) place.device
cells_insert n place number new free =
    mapped-insert place_cmp cells_total turned places_total cells_exact n place number new free

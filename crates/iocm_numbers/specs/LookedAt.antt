-- The number cells at some places, at which subchannels are looked at before and after a change of
-- the configuration.
use Rattle.std.specs.Prelude.{◌≡◌, ℕ, true, List, Some}
use Rattle.std.specs.List.{filter_map, list_any}
use Rattle.std.specs.Option.{option_map}
use Rattle.std.specs.Ordering.{eq_by_cmp}
use Rattle.std.specs.FinMap.{get}
use Rattle.iocm_types.specs.declared.place.Place.{Place}
use Rattle.iocm_types.specs.declared.place.NumberCell.{NumberCell}
use Rattle.iocm_types.specs.Place.{place_cmp, cell_cmp}
use Rattle.iocm_model.specs.Machine.Numbering.{Numbering}
use Rattle.iocm_numbers.specs.Numbered.{cell_at}

-- the number cells of those of these places that have a number
abbrev pub cells_at : Numbering → List Place → List NumberCell
cells_at n ps = filter_map (λ p. option_map (cell_at p) (get n p)) ps

-- the number cell of a place that has a number is among those of any places of which it is one
abbrev pub CellsAreListed : Type 0
CellsAreListed = (n : Numbering) (ps : List Place) (p : Place) (k : ℕ)
    → list_any (eq_by_cmp place_cmp p) ps ≡ true → get n p ≡ Some k
    → list_any (eq_by_cmp cell_cmp (cell_at p k)) (cells_at n ps) ≡ true

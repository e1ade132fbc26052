-- Number cells that are noted while carried numbers are looked through.
use Rattle.std.specs.Prelude.{◌||◌, Bool, if◌then◌else◌, List}
use Rattle.std.specs.Prelude.{ℕ}
use Rattle.std.specs.List.{list_any}
use Rattle.std.specs.FinMap.{FinMap, insert, contains_key}
use Rattle.iocm_types.specs.declared.place.Place.{Place}
use Rattle.iocm_types.specs.Place.{cell_cmp}
use Rattle.iocm_model.specs.Machine.Configuration.{Configuration}
use Rattle.iocm_model.specs.Machine.Numbering.{Numbering}
use Rattle.iocm_model.specs.Change.Refusal.{has_cell_twice}
use Rattle.iocm_model.specs.Change.Renumbering.{comes_in}
use Rattle.iocm_numbers.specs.Numbered.{cell_at}

-- cells that are noted
abbrev pub Cells : Type 0
Cells = FinMap cell_cmp (Unit {0})

-- whether the cell of a row is noted
abbrev pub is_noted : Cells → Place × ℕ → Bool
is_noted seen row = contains_key seen (cell_at row.0 row.1)

-- a row that comes in is noted
abbrev pub with_noted : Configuration → Numbering → Cells → Place × ℕ → Cells
with_noted c n seen row = if comes_in c n row then insert seen (cell_at row.0 row.1) tt else seen

-- one of these rows has a cell that is noted, or two of them have one cell
abbrev pub is_one_again : Cells → List (Place × ℕ) → Bool
is_one_again seen rows = list_any (is_noted seen) rows || has_cell_twice rows

-- What a change of the configuration did to the numbers: which number cells have another device
-- now, and which had and have them.
use Rattle.std.specs.Prelude.{◌≡◌, ◌==◌, ◌++◌, ℕ, List, Option, Some, None, map}
use Rattle.iocm_types.specs.declared.place.Place.{Place}
use Rattle.iocm_types.specs.declared.place.NumberCell.{NumberCell}
use Rattle.iocm_model.specs.Machine.Numbering.{Numbering, cells_of, device_at}
use Rattle.iocm_model.specs.Change.Inverse.{freed_numbers}
use Rattle.iocm_model.specs.Change.Maps.{differing}
use Rattle.iocm_numbers.specs.declared.number_change.NumberChange.{NumberChange}
use Rattle.iocm_numbers.specs.Exchange.{Agree}
use Rattle.iocm_numbers.specs.Numbered.{cell_at, HasNoNumberTwice}

-- a number cell, with the device that it has in the one and in the other
abbrev pub number_change : Numbering → Numbering → NumberCell → NumberChange
number_change n m cell = record { cell = cell; before = device_at n cell; after = device_at m cell }

-- the number cells that have another device in the other, or one in one of them alone, in order
abbrev pub changes_between : Numbering → Numbering → List NumberChange
changes_between n m = map (number_change n m) (differing ◌==◌ (cells_of n) (cells_of m))

-- numbers as they were before a change that freed the numbers of these rows and gave those: no
-- number came twice, and those that stay kept theirs
pub record WereBefore (n m : Numbering) (freed given : List (Place × ℕ)) : Type 0 where
  pub agree : Agree n m
  pub apart : HasNoNumberTwice n
  pub gone : freed ≡ freed_numbers n m
  pub come : given ≡ freed_numbers m n

-- the number cell of a row that was freed, with the device that had it
abbrev pub freed_cell : Place × ℕ → NumberCell × Option ℕ
freed_cell row = (cell_at row.0 row.1, Some row.0.device)

-- the number cell of a row that was given, as one that no device had
abbrev pub given_cell : Place × ℕ → NumberCell × Option ℕ
given_cell row = (cell_at row.0 row.1, None)

-- both, those that were freed first
abbrev pub noted_cells : List (Place × ℕ) → List (Place × ℕ) → List (NumberCell × Option ℕ)
noted_cells freed given = map freed_cell freed ++ map given_cell given

-- a cell of these, with the device that has it now
abbrev pub change_from : Numbering → NumberCell × Option ℕ → NumberChange
change_from m e = record { cell = e.0; before = e.1; after = device_at m e.0 }

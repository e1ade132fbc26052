-- Subchannel numbers in memory.
use Rattle.std.specs.Prelude.{◌≡◌, ℕ, ◌<◌, nat_le, T, List, filter, Some}
use Rattle.std.specs.List.{list_any}
use Rattle.std.specs.Ordering.{eq_by_cmp}
use Rattle.std.specs.FinMap.{get}
use Rattle.iocm_types.specs.declared.place.Place.{Place}
use Rattle.iocm_types.specs.declared.place.NumberCell.{NumberCell}
use Rattle.iocm_types.specs.Place.{place_cmp, cell_cmp}
use Rattle.iocm_model.specs.Machine.Numbering.{Numbering}

-- the numbers that devices have, and what has room: the places that can be given a number, and the
-- number cells that can be given away, without memory
pub record Numbered : Type 0 where
  pub numbers : Numbering
  pub place_room : List Place
  pub cell_room : List NumberCell

-- the number cell that a number at a place takes
abbrev pub cell_at : Place → ℕ → NumberCell
cell_at place number = record { css = place.css; set = place.set; number = number }

-- of number cells, with their devices, those of a channel subsystem and of the ones after it
abbrev pub cells_from : ℕ → List (NumberCell × ℕ) → List (NumberCell × ℕ)
cells_from css cells = filter (λ (e : NumberCell × ℕ). nat_le css e.0.css) cells

-- a place can be given a number without memory, as far as the place goes
abbrev pub HasPlaceRoom : Numbered → Place → Type 0
HasPlaceRoom n place = T (list_any (eq_by_cmp place_cmp place) n.place_room)

-- a number cell can be given away without memory, as far as the cell goes
abbrev pub HasCellRoom : Numbered → NumberCell → Type 0
HasCellRoom n cell = T (list_any (eq_by_cmp cell_cmp cell) n.cell_room)

-- a number can be given to a place without memory
pub record HasRoom (n : Numbered) (place : Place) (number : ℕ) : Type 0 where
  pub place_has : HasPlaceRoom n place
  pub cell_has : HasCellRoom n (cell_at place number)

-- what had room has it still
abbrev pub KeepsRoom : Numbered → Numbered → Type 0
KeepsRoom old new = (place : Place) (number : ℕ) → HasRoom old place number → HasRoom new place number

-- the same numbers have room
pub record HasSameRoom (n m : Numbered) : Type 0 where
  pub same_places : n.place_room ≡ m.place_room
  pub same_cells : n.cell_room ≡ m.cell_room

-- no number comes twice in a channel subsystem and set
abbrev pub HasNoNumberTwice : Numbering → Type 0
HasNoNumberTwice n = (p q : Place) (number : ℕ) → p.css ≡ q.css → p.set ≡ q.set → get n p ≡ Some number
    → get n q ≡ Some number → p ≡ q

-- the devices that have numbers have device numbers of 16 bits
abbrev pub HasSmallDevices : Numbering → Type 0
HasSmallDevices n = (p : Place) (number : ℕ) → get n p ≡ Some number → p.device < 65536

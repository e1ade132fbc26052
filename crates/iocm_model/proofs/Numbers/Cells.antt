-- Number cells: they say all about the numbers, and a number that is given away is used.
use Rattle.std.proofs.Common.{◌≡◌, ℕ, true, map, Option, Some, None, is_some, refl, sym, ap, ◌∙◌}
use Rattle.std.specs.FinMap.{get, contains_key, entries, entries_sorted, get-entries, get-from_entries, same_map}
use Rattle.iocm_types.specs.declared.place.Place.{Place}
use Rattle.iocm_types.specs.declared.place.NumberCell.{NumberCell}
use Rattle.iocm_types.specs.Place.{place_cmp, cell_cmp}
use Rattle.iocm_types.specs.KeyOrder.{places_total, places_exact, cells_total, cells_exact}
use Rattle.iocm_types.proofs.Found.{found_back, found_on}
use Rattle.iocm_types.proofs.Tests.{present}
use Rattle.iocm_model.specs.Machine.Numbering.{Numbering, cells_of, numbering_of}
use Rattle.iocm_model.specs.Laws.Numbers.{CellsAreTheNumbers}

-- no number comes twice in a channel subsystem and set
abbrev pub IsApart : Numbering → Type 0
IsApart n = (p q : Place) (number : ℕ) → p.css ≡ q.css → p.set ≡ q.set → get n p ≡ Some number → get n q ≡ Some number
    → p ≡ q

-- the cell of a number at a place
abbrev pub cell : Place → ℕ → NumberCell
cell p number = record { css = p.css; set = p.set; number = number }

-- the place of a device that has a cell
abbrev pub place : NumberCell → ℕ → Place
place c device = record { css = c.css; set = c.set; device = device }

-- a number at its place as a device at its cell
abbrev to_cell : Place × ℕ → NumberCell × ℕ
to_cell e = (cell e.0 e.1, e.0.device)

-- and back
abbrev to_place : NumberCell × ℕ → Place × ℕ
to_place e = (place e.0 e.1, e.0.number)

-- the device of a cell has its number
pub has_number : (n : Numbering) (c : NumberCell) (device : ℕ) → get (cells_of n) c ≡ Some device
    → get n (place c device) ≡ Some c.number
has_number n c device is =
    get-entries n (place c device)
    ∙ found_back place_cmp places_total places_exact cell_cmp cells_total cells_exact to_cell to_place (λ e. refl)
    (entries n) (entries_sorted n) c device
    (sym (get-from_entries cells_total (map to_cell (entries n)) c) ∙ is)

-- a number that is given away has a cell
pub has_cell : (n : Numbering) (p : Place) (number : ℕ) → get n p ≡ Some number
    → contains_key (cells_of n) (cell p number) ≡ true
has_cell n p number is =
    ap is_some (get-from_entries cells_total (map to_cell (entries n)) (cell p number))
    ∙ found_on place_cmp places_total places_exact cell_cmp cells_total cells_exact to_cell to_place (λ e. refl)
    (entries n) p number
    (sym (get-entries n p) ∙ is)

-- and where no number comes twice, the cell has the device
pub has_device : (n : Numbering) → IsApart n → (p : Place) (number : ℕ) → get n p ≡ Some number
    → get (cells_of n) (cell p number) ≡ Some p.device
has_device n apart p number is =
    let there = present (get (cells_of n) (cell p number)) (has_cell n p number is) in
    let same : p ≡ place (cell p number) there.0 =
    apart p (place (cell p number) there.0) number refl refl is (has_number n (cell p number) there.0 there.1) in
    there.1 ∙ ap (λ (q : Place). Some q.device) (sym same)

-- what the numbering of the cells has is a number
from_cells : (n : Numbering) (p : Place) (number : ℕ) → get (numbering_of (cells_of n)) p ≡ Some number
    → get n p ≡ Some number
from_cells n p number is =
    let cells = cells_of n in
    has_number n (cell p number) p.device (get-entries cells (cell p number)
    ∙ found_back cell_cmp cells_total cells_exact place_cmp places_total places_exact to_place to_cell (λ e. refl)
    (entries cells) (entries_sorted cells) p number
    (sym (get-from_entries places_total (map to_place (entries cells)) p) ∙ is))

-- and each number is there
in_cells : (n : Numbering) → IsApart n → (p : Place) (number : ℕ) → get n p ≡ Some number
    → contains_key (numbering_of (cells_of n)) p ≡ true
in_cells n apart p number is =
    let cells = cells_of n in
    ap is_some (get-from_entries places_total (map to_place (entries cells)) p)
    ∙ found_on cell_cmp cells_total cells_exact place_cmp places_total places_exact to_place to_cell (λ e. refl)
    (entries cells) (cell p number) p.device
    (sym (get-entries cells (cell p number)) ∙ has_device n apart p number is)

-- two answers of which each value of the one is the other's are equal, if the one is there whenever
-- the other is
same_answer : (a b : Option ℕ) → ((k : ℕ) → a ≡ Some k → b ≡ Some k) → ((k : ℕ) → b ≡ Some k → is_some a ≡ true) → a ≡ b
same_answer (Some x) b there here = sym (there x refl)
same_answer None None there here = refl
same_answer None (Some y) there here = let none = here y refl in cc

-- the numbering of its cells is the numbering
pub cells_give_numbers : CellsAreTheNumbers
cells_give_numbers c n numbers =
    same_map places_total places_exact _ _ (λ p. same_answer _ _ (from_cells n p) (in_cells n numbers.apart p))

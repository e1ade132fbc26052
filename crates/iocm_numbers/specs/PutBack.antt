-- Numbers that are put back: the numbers at some places, and rows that fit in among others.
use Rattle.std.specs.Prelude.{◌≡◌, ℕ, List, [], ◌∷◌, None}
use Rattle.std.specs.List.{filter_map, AllByRecursion}
use Rattle.std.specs.Option.{option_map}
use Rattle.std.specs.FinMap.{get, insert}
use Rattle.iocm_types.specs.declared.place.Place.{Place}
use Rattle.iocm_model.specs.Machine.Numbering.{Numbering, device_at}
use Rattle.iocm_numbers.specs.Numbered.{Numbered, cell_at, HasRoom}

-- of these places those that have a number, with it
abbrev pub numbers_at : Numbering → List Place → List (Place × ℕ)
numbers_at n ps = filter_map (λ p. option_map (λ k. (p, k)) (get n p)) ps

-- the numbers with a row more
abbrev pub put_in : Numbering → Place × ℕ → Numbering
put_in n row = insert n row.0 row.1

-- each row's place has no number when its turn comes, and no device has its number
abbrev pub FitIn : Numbering → List (Place × ℕ) → Type 0
FitIn n [] = Unit {0}
FitIn n (row ∷ rows) = (get n row.0 ≡ None) × (device_at n (cell_at row.0 row.1) ≡ None) × FitIn (put_in n row) rows

-- each row has room
abbrev pub HaveRoom : Numbered → List (Place × ℕ) → Type 0
HaveRoom n rows = AllByRecursion (λ row. HasRoom n row.0 row.1) rows

-- Numbers that are exchanged: those of some rows are taken back, and others are given. What leads
-- from one numbering to another and back.
use Rattle.std.specs.Prelude.{◌≡◌, ℕ, List, Some, map, fold}
use Rattle.std.specs.FinMap.{get, remove}
use Rattle.iocm_types.specs.declared.place.Place.{Place}
use Rattle.iocm_model.specs.Machine.Configuration.{Configuration}
use Rattle.iocm_model.specs.Machine.Numbering.{Numbering}
use Rattle.iocm_model.specs.Change.Inverse.{freed_numbers}
use Rattle.iocm_model.specs.Change.Renumbering.{numbers_after}
use Rattle.iocm_numbers.specs.Numbered.{Numbered, HasNoNumberTwice, HasRoom}
use Rattle.iocm_numbers.specs.PutBack.{put_in, FitIn, HaveRoom}

-- the numbers without those at the places of these rows
abbrev pub without_rows : Numbering → List (Place × ℕ) → Numbering
without_rows n rows = fold remove n (map (λ (row : Place × ℕ). row.0) rows)

-- the numbers with the rows of the one list out and those of the other in
abbrev pub exchanged : Numbering → List (Place × ℕ) → List (Place × ℕ) → Numbering
exchanged n out back = fold put_in (without_rows n out) back

-- a place that has a number in both has the same in both
abbrev pub Agree : Numbering → Numbering → Type 0
Agree n m = (p : Place) (j k : ℕ) → get n p ≡ Some j → get m p ≡ Some k → j ≡ k

-- what the one has alone, exchanged for what the other has alone, leads from the one to the other
abbrev pub ExchangeLeads : Type 0
ExchangeLeads = (n m : Numbering) → Agree n m → exchanged n (freed_numbers n m) (freed_numbers m n) ≡ m

-- and what is given fits in, where the other gives no number twice
abbrev pub RowsFitIn : Type 0
RowsFitIn = (n m : Numbering) → Agree n m → HasNoNumberTwice m
    → FitIn (without_rows n (freed_numbers n m)) (freed_numbers m n)

-- and has room, where each number of the other has
abbrev pub RowsHaveRoom : Type 0
RowsHaveRoom = (now : Numbered) (n m : Numbering)
    → ((p : Place) (number : ℕ) → get m p ≡ Some number → HasRoom now p number)
    → HaveRoom now (freed_numbers m n)

-- the numbers before and after a change of the configuration agree
abbrev pub ChangesAgree : Type 0
ChangesAgree = (c : Configuration) (carried : List (Place × ℕ)) (n : Numbering) → Agree n (numbers_after c carried n)

-- what agrees one way agrees the other way
abbrev pub AgreeBothWays : Type 0
AgreeBothWays = (n m : Numbering) → Agree n m → Agree m n

-- The addresses that devices have on their units, each as one number: the unit's number, then the
-- unit address.
use Rattle.std.specs.Prelude.{ℕ, ◌+◌, ◌*◌, List, [], map}
use Rattle.iocm_model.specs.Machine.Record.{Rec, device}

abbrev pub number_on : ℕ → ℕ → ℕ
number_on address number = number * 256 + address

-- those of a device on these units
abbrev pub numbers_of : ℕ → List ℕ → List ℕ
numbers_of address units = map (number_on address) units

-- those of a device record; other records have none
abbrev pub unit_numbers : Rec → List ℕ
unit_numbers (device d) = numbers_of d.unit_address d.units
unit_numbers _ = []

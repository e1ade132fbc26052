-- The numbers that values write.
-- IOCP User's Guide, CHPID, CNTLUNIT and IODEVICE statements.
use Rattle.std.specs.Prelude.{ℕ, ◌==◌, if◌then◌else◌, Option, None, Some, List}
use Rattle.std.specs.Option.{option_and_then}
use Rattle.iocm_values.specs.Digits.{hex_of, decimal_of}

-- a path number, one or two digits
abbrev pub path_number : List ℕ → Option ℕ
path_number text = hex_of 255 2 text

-- the number of a control unit, one to four digits, up to FFFE
abbrev pub unit_number : List ℕ → Option ℕ
unit_number text = hex_of 65534 4 text

-- a unit address, one or two hexadecimal digits
abbrev pub unit_address : List ℕ → Option ℕ
unit_address text = hex_of 255 2 text

-- a decimal count, 1 to a limit
abbrev pub count_of : ℕ → List ℕ → Option ℕ
count_of limit text = option_and_then (λ n. if n == 0 then None else Some n) (decimal_of limit text)

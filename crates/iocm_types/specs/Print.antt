-- Numbers as they are printed: hexadecimal, upper case, with zeros in front to a fixed width.
use Rattle.std.specs.Prelude.{ℕ, ◌-◌, ◌^◌, List, [], true, false}
use Rattle.std.specs.Fmt.{padded_integral, format_spec, digits}

-- the number with as few digits as it has
abbrev pub hex1 : ℕ → List ℕ
hex1 n = digits 16 true n

-- with zeros in front, at least two digits
abbrev pub hex2 : ℕ → List ℕ
hex2 n = padded_integral (format_spec 32 0 4 2 (2 ^ 64 - 1)) false [] (digits 16 true n)

-- with zeros in front, at least four digits
abbrev pub hex4 : ℕ → List ℕ
hex4 n = padded_integral (format_spec 32 0 4 4 (2 ^ 64 - 1)) false [] (digits 16 true n)

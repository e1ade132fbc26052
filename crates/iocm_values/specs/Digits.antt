-- Numbers in operands: hexadecimal in upper case, and decimal.
use Rattle.std.specs.Prelude.{ℕ, ◌+◌, ◌-◌, ◌*◌, ◌==◌, ◌&&◌, ◌||◌, nat_le, Bool, not}
use Rattle.std.specs.Prelude.{if◌then◌else◌, Option, None, Some, List, length, fold}
use Rattle.std.specs.List.{list_all}

-- 0 to 9
abbrev pub is_decimal_digit : ℕ → Bool
is_decimal_digit b = nat_le 48 b && nat_le b 57

-- 0 to 9 and A to F
abbrev pub is_hex_digit : ℕ → Bool
is_hex_digit b = is_decimal_digit b || (nat_le 65 b && nat_le b 70)

-- the value of a hexadecimal digit
abbrev pub hex_digit : ℕ → ℕ
hex_digit b = if nat_le b 57 then b - 48 else b - 55

-- the number that these hexadecimal digits write
abbrev pub hex_value : List ℕ → ℕ
hex_value text = fold (λ value b. 16 * value + hex_digit b) 0 text

-- the number that these decimal digits write
abbrev pub decimal_value : List ℕ → ℕ
decimal_value text = fold (λ value b. 10 * value + (b - 48)) 0 text

-- one digit or more
abbrev pub is_number : (ℕ → Bool) → List ℕ → Bool
is_number is_digit text = not (length text == 0) && list_all is_digit text

-- the number, if it is within the limit
abbrev pub up_to : ℕ → ℕ → Option ℕ
up_to limit value = if nat_le value limit then Some value else None

-- a hexadecimal number of one digit to so many, up to the limit
abbrev pub hex_of : ℕ → ℕ → List ℕ → Option ℕ
hex_of limit digits text =
    if is_number is_hex_digit text && nat_le (length text) digits then up_to limit (hex_value text) else None

-- a decimal number with any number of leading zeros, up to the limit
abbrev pub decimal_of : ℕ → List ℕ → Option ℕ
decimal_of limit text = if is_number is_decimal_digit text then up_to limit (decimal_value text) else None

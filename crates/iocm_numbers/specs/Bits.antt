-- Bits in words of 64, as numbers that are taken are noted: the bit of a number, and the lowest
-- that isn't set.
use Rattle.std.specs.Prelude.{◌≡◌, ℕ, ◌+◌, ◌/◌, ◌%◌, ◌<◌, Bool, true, false, nat_eq, List}
use Rattle.std.specs.Int.{bit_at}
use Rattle.std.specs.Prelude.{slice_index_or}

-- whether a bit is set; beyond the words none is
abbrev pub is_bit_set : List ℕ → ℕ → Bool
is_bit_set words bit = nat_eq (bit_at (slice_index_or words (bit / 64) 0) (bit % 64)) 1

-- this many bits from one on are set
abbrev pub AreAllSet : List ℕ → ℕ → ℕ → Type 0
AreAllSet words from many = (k : ℕ) → k < many → is_bit_set words (from + k) ≡ true

-- of the bits from one on the first that isn't set
pub record IsLowestClear (words : List ℕ) (from number : ℕ) : Type 0 where
  pub clear : is_bit_set words (from + number) ≡ false
  pub lower : AreAllSet words from number

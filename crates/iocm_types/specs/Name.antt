-- The names of images.
use Rattle.std.specs.Prelude.{◌≡◌, ℕ, ◌-◌, ◌≤◌, Bool, false, ◌&&◌, ◌||◌, not, nat_le}
use Rattle.std.specs.Prelude.{nat_eq, IsTrue, List, [], ◌∷◌, ◌++◌, length, take, drop}
use Rattle.std.specs.Prelude.{replicate, codes, Option, Some, None, if◌then◌else◌}
use Rattle.std.specs.List.{list_all}
use Rattle.std.specs.Int.{w64, from_be_bytes}
use Rattle.std.specs.Cmp.Lexicographic.{pointwise}
use Rattle.std.proofs.Common.{arith, refl}
use Rattle.std.proofs.lemmas.List.{length-take-le, take-append-drop}

-- a letter A to Z
abbrev pub is_letter : ℕ → Bool
is_letter b = nat_le 65 b && nat_le b 90

-- a letter A to Z or a digit 0 to 9
abbrev pub is_letter_or_digit : ℕ → Bool
is_letter_or_digit b = is_letter b || (nat_le 48 b && nat_le b 57)

-- begins with a letter
abbrev pub begins_with_letter : List ℕ → Bool
begins_with_letter [] = false
begins_with_letter (b ∷ bs) = is_letter b

-- a letter, then letters and digits, one to eight in all, and not REC
abbrev pub is_name : List ℕ → Bool
is_name bytes =
    begins_with_letter bytes && list_all is_letter_or_digit bytes && nat_le (length bytes) 8
    && not (pointwise nat_eq bytes (codes "REC"))

-- the name of these bytes, if they are one
abbrev pub name_of : List ℕ → Option (List ℕ)
name_of bytes = if is_name bytes then Some bytes else None

-- the bytes of a name as a number of eight bytes, the first byte the highest; places past its end
-- are zero
abbrev pub number_of : List ℕ → ℕ
number_of name = from_be_bytes w64 (name ++ replicate (8 - length name) 0)

-- eight bytes, of which the first len are the name and the rest are zeros
pub record IsPadded (bytes : List ℕ) (len : ℕ) : Type 0 where
  pub within : len ≤ 8
  pub eight : length bytes ≡ 8
  pub zeros : drop len bytes ≡ replicate (8 - len) 0
  pub name : IsTrue (is_name (take len bytes))

-- the name is as long as it says
pub len_back : (bytes : List ℕ) (len : ℕ) → IsPadded bytes len → length (take len bytes) ≡ len
len_back bytes len h = length-take-le len bytes (let w = h.within in let e = h.eight in omega arith)

-- the name, filled up with zeros, gives the bytes back
pub bytes_back : (bytes : List ℕ) (len : ℕ) → IsPadded bytes len
    → take len bytes ++ replicate (8 - length (take len bytes)) 0 ≡ bytes
bytes_back bytes len h = rw (len_back bytes len h, ← h.zeros, take-append-drop) refl

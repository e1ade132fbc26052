-- The bits of a mask, along the paths.
use Rattle.std.proofs.Common.{◌≡◌, ℕ, zero, suc, ◌+◌, ◌-◌, ◌*◌, ◌/◌, ◌^◌, ◌<◌, ◌≤◌, Bool, true, false, cond, List, []}
use Rattle.std.proofs.Common.{◌∷◌, refl, ap, ◌∙◌, arith}
use Rattle.std.specs.Int.{bit_at}
use Rattle.std.proofs.lemmas.Nat.{pow_pos}
use Rattle.std.proofs.lemmas.Nat.Bits.{bit_at-zero, bit_at_cat_low, bit_at_cat_high}
use Rattle.iocm_model.specs.Machine.Mask.{mask_from, is_online}
use Rattle.iocm_model.specs.Machine.Sight.{reaches}
use Rattle.iocm_model.specs.Laws.Masks.{passes_at, InstalledBits, AvailableBits}

-- half of a power of two
half : (k : ℕ) → 2 ^ suc k / 2 ≡ 2 ^ k
half k = omega arith

-- a bit or none is so many times the bit
so_many : (b : Bool) (bit : ℕ) → cond b bit 0 ≡ cond b 1 0 * bit
so_many true bit = omega arith
so_many false bit = omega arith

module _ (test : ℕ → Bool) where
  -- with no bit left, nothing is added
  spent : (ps : List ℕ) → mask_from 0 test ps ≡ 0
  spent [] = refl
  spent (p ∷ ps) = rw (spent ps) (none (test p))
    where
      none : (b : Bool) → cond b 0 0 + 0 ≡ 0
      none true = refl
      none false = refl

  -- the bits of a mask are at most those from its first on
  below : (k : ℕ) (ps : List ℕ) → mask_from (2 ^ k) test ps < 2 ^ suc k
  below k [] = pow_pos (suc k)
  below zero (p ∷ ps) = rw (spent ps) (small (test p))
    where
      small : (b : Bool) → cond b 1 0 + 0 < 2
      small true = omega arith
      small false = omega arith
  below (suc k) (p ∷ ps) = rw (half k) (more (test p) (mask_from (2 ^ k) test ps) (below k ps))
    where
      more : (b : Bool) (r : ℕ) → r < 2 ^ suc k → cond b (2 ^ suc k) 0 + r < 2 ^ suc (suc k)
      more true r rest = omega arith
      more false r rest = omega arith

  -- what is left for the further paths is below the bit of the first
  rest_below : (k : ℕ) (ps : List ℕ) → mask_from (2 ^ k / 2) test ps < 2 ^ k
  rest_below zero ps = rw (spent ps) (omega arith)
  rest_below (suc k) ps = rw (half k) (below k ps)

  -- the first bit is that of the first path
  first_bit : (b : Bool) (k r : ℕ) → r < 2 ^ k → bit_at (cond b (2 ^ k) 0 + r) (k - 0) ≡ cond b 1 0
  first_bit b k r low =
      let here : bit_at (cond b 1 0 * 2 ^ k + r) k ≡ bit_at (cond b 1 0) (k - k) =
      bit_at_cat_high (cond b 1 0) k r k low (omega arith) in
      let none : k - k ≡ 0 = omega arith in
      let all : k - 0 ≡ k = omega arith in
      rw all (rw (so_many b (2 ^ k)) (here ∙ ap (bit_at (cond b 1 0)) none ∙ itself b))
    where
      itself : (b : Bool) → bit_at (cond b 1 0) 0 ≡ cond b 1 0
      itself true = refl
      itself false = refl

  -- a further bit is one of those that are left for the further paths
  later_bit : (b : Bool) (k i r : ℕ) → i < k → bit_at (cond b (2 ^ k) 0 + r) i ≡ bit_at r i
  later_bit b k i r low = rw (so_many b (2 ^ k)) (bit_at_cat_low (cond b 1 0) k r i low)

  -- each bit of a mask is that of its path
  bits : (k : ℕ) (ps : List ℕ) (j : ℕ) → j ≤ k
      → bit_at (mask_from (2 ^ k) test ps) (k - j) ≡ cond (passes_at test ps j) 1 0
  bits k [] j low = bit_at-zero (k - j)
  bits k (p ∷ ps) zero low = first_bit (test p) k (mask_from (2 ^ k / 2) test ps) (rest_below k ps)
  bits zero (p ∷ ps) (suc j) low = absurd (omega arith)
  bits (suc k) (p ∷ ps) (suc j) low =
      let there : suc k - suc j ≡ k - j = omega arith in
      let within : k - j < suc k = omega arith in
      rw there (later_bit (test p) (suc k) (k - j) (mask_from (2 ^ suc k / 2) test ps) within
      ∙ rw (half k) (bits k ps j (omega arith)))

-- the bits of the path-installed mask
pub installed_bits : InstalledBits
installed_bits c css name paths j low = bits (reaches c css name) 7 paths j (omega arith)

-- the bits of the path-available mask
pub available_bits : AvailableBits
available_bits c css name paths j low = bits (is_online c css name) 7 paths j (omega arith)

-- One word of bits in place of another, and the first word that isn't full.
use Rattle.std.proofs.Common.{◌≡◌, ◌≢◌, ℕ, ◌+◌, ◌*◌, ◌/◌, ◌%◌, ◌<◌, ◌^◌, Bool, true, false, nat_eq, nat_lt, eqb-true}
use Rattle.std.proofs.Common.{eq-eqb, ◌-◌, ◌≤◌, w64, List, length, refl, sym, ap, ◌∙◌, subst, arith, slice_index_or}
use Rattle.std.proofs.Common.{slice_set}
use Rattle.std.specs.Int.{bit_at, trailing_ones}
use Rattle.std.proofs.lemmas.Nat.Bits.{bit_at_ones, bit_at-trailing_ones}
use Rattle.std.proofs.lemmas.Bool.{ltb-true, ltb-false}
use Rattle.std.proofs.lemmas.List.{get_or-set_same, get_or-set_other}
use Rattle.iocm_numbers.specs.Bits.{is_bit_set, AreAllSet, IsLowestClear}

-- a number is determined by its quotient and its rest
pub same_place : (a b : ℕ) → a / 64 ≡ b / 64 → a % 64 ≡ b % 64 → a ≡ b
same_place a b q r = omega arith

pub small_rest : (a : ℕ) → a % 64 < 64
small_rest a = omega arith

module _ (words : List ℕ) (bit word : ℕ) (within : bit / 64 < length words) where
  -- the bit is that of the new word
  pub bit_here : is_bit_set (slice_set words (bit / 64) word) bit ≡ nat_eq (bit_at word (bit % 64)) 1
  bit_here = ap (λ w. nat_eq (bit_at w (bit % 64)) 1) (get_or-set_same words (bit / 64) word 0 within)

  -- the other bits stay, if those of the word do
  other_by : (other : ℕ) (b : Bool) → nat_eq (other / 64) (bit / 64) ≡ b
      → ((i : ℕ) → i < 64 → i ≢ bit % 64 → bit_at word i ≡ bit_at (slice_index_or words (bit / 64) 0) i)
      → other ≢ bit → is_bit_set (slice_set words (bit / 64) word) other ≡ is_bit_set words other
  other_by other true is kept apart =
      let same : other / 64 ≡ bit / 64 = eqb-true _ _ is in
      ap (λ q. nat_eq (bit_at (slice_index_or (slice_set words (bit / 64) word) q 0) (other % 64)) 1) same
      ∙ ap (λ w. nat_eq (bit_at w (other % 64)) 1) (get_or-set_same words (bit / 64) word 0 within)
      ∙ ap (λ x. nat_eq x 1) (kept (other % 64) (small_rest other) (λ r. apart (same_place other bit same r)))
      ∙ ap (λ q. nat_eq (bit_at (slice_index_or words q 0) (other % 64)) 1) (sym same)
  other_by other false is kept apart =
      ap (λ w. nat_eq (bit_at w (other % 64)) 1) (get_or-set_other words (bit / 64) (other / 64) word 0 (differ is))
    where
      differ : nat_eq (other / 64) (bit / 64) ≡ false → other / 64 ≢ bit / 64
      differ e same = let no : true ≡ false = sym (eq-eqb _ _ same) ∙ e in cc

  pub bit_elsewhere : ((i : ℕ) → i < 64 → i ≢ bit % 64 → bit_at word i ≡ bit_at (slice_index_or words (bit / 64) 0) i)
      → (other : ℕ) → other ≢ bit → is_bit_set (slice_set words (bit / 64) word) other ≡ is_bit_set words other
  bit_elsewhere kept other = other_by other (nat_eq (other / 64) (bit / 64)) refl kept

-- a bit of the words from one on, by the word that it is in
in_word : (words : List ℕ) (first place k : ℕ) → k < 64
    → is_bit_set words (64 * first + (place * 64 + k)) ≡ nat_eq (bit_at (slice_index_or words (first + place) 0) k) 1
in_word words first place k small =
    let word : (64 * first + (place * 64 + k)) / 64 ≡ first + place = omega (arith, small) in
    let rest : (64 * first + (place * 64 + k)) % 64 ≡ k = omega (arith, small) in
    ap (λ q. nat_eq (bit_at (slice_index_or words q 0) ((64 * first + (place * 64 + k)) % 64)) 1) word
    ∙ ap (λ r. nat_eq (bit_at (slice_index_or words (first + place) 0) r) 1) rest

module _ (words : List ℕ) (first place : ℕ) (before : AreAllSet words (64 * first) (64 * place)) where
  abbrev word : ℕ
  word = slice_index_or words (first + place) 0

  -- all bits below one of this word are set, if those of the word are
  set_below : (many : ℕ) → ((i : ℕ) → i < many → i < 64 → bit_at word i ≡ 1) → many < 65
      → AreAllSet words (64 * first) (place * 64 + many)
  set_below many ones most k below = by (nat_lt k (64 * place)) refl
    where
      by : (b : Bool) → nat_lt k (64 * place) ≡ b → is_bit_set words (64 * first + k) ≡ true
      by true less = before k (ltb-true _ _ less)
      by false not_less =
          let past : 64 * place ≤ k = ltb-false _ _ not_less in
          let same : place * 64 + (k - 64 * place) ≡ k = omega (arith, past) in
          let small : k - 64 * place < 64 = omega (arith, past, below, most) in
          ap (λ j. is_bit_set words (64 * first + j)) (sym same) ∙ in_word words first place (k - 64 * place) small
          ∙ ap (λ b. nat_eq b 1) (ones (k - 64 * place) (omega (arith, past, below)) small)

  -- a full word more
  pub one_more_full : word ≡ 2 ^ 64 - 1 → AreAllSet words (64 * first) (64 * (place + 1))
  one_more_full full k below =
      set_below 64 (λ i _ small. ap (λ w. bit_at w i) full ∙ bit_at_ones 64 i small) (omega arith) k
      (omega (arith, below))

  -- the lowest bit of a word that isn't full
  pub first_clear : (ones : ℕ) → word < 2 ^ 64 → (word ≡ 2 ^ 64 - 1 → ⊥) → ones ≡ trailing_ones w64 word
      → IsLowestClear words (64 * first) (place * 64 + ones)
  first_clear ones fits not_full is =
      let most : word + 1 < 2 ^ 64 = omega (arith, fits, not_full) in
      let lowest = bit_at-trailing_ones w64 word most in
      subst (λ r. IsLowestClear words (64 * first) (place * 64 + r)) (sym is) (record {
        clear = in_word words first place (trailing_ones w64 word) lowest.0 ∙ ap (λ b. nat_eq b 1) lowest.1;
        lower = set_below (trailing_ones w64 word) (λ i less _. lowest.2 i less) (omega (arith, lowest.0));
      })

-- Keys and their bits in a signature: how they get there, and what they tell.
use Rattle.std.proofs.Common.{◌≡◌, ℕ, suc, zero, ◌<◌, ◌%◌, ◌^◌, ◌*◌, Bool, true, false, List, [], ◌∷◌, min, max}
use Rattle.std.proofs.Common.{bit_and, bit_or, refl, sym, ap, ◌∙◌, w64, arith}
use Rattle.std.proofs.lemmas.List.Elements.{All-nil}
use Rattle.std.proofs.lemmas.List.Folds.{Any-from_list_any, list_any_none}
use Rattle.std.proofs.lemmas.Nat.Bits.{bit_at_and, bit_at_or, bit_at-lt, bit_at-zero, bit_at_set_same}
use Rattle.std.specs.Int.{bit_at}
use Rattle.std.specs.List.{list_any}
use Rattle.std.specs.Ordering.{eq_by_cmp}
use Rattle.std.specs.declared.cmp.Ordering.{Ordering}
use Rattle.std.specs.FinMap.{FinMap, IsAntisymmetric, contains_key, contains_key-keys, keys}
use Rattle.iocm_types.proofs.Found.{same_key}
use Rattle.iocm_activate.specs.Signature.{AreSigned}

-- a bit that is set in one of two words is set in both together
pub either_set : (a b i : ℕ) → bit_at a i ≡ 1 → bit_at (bit_or a b) i ≡ 1
either_set a b i is = bit_at_or a b i ∙ ap (λ n. max n (bit_at b i)) is ∙ largest (bit_at b i) (bit_at-lt b i)
  where
    largest : (b : ℕ) → b < 2 → max 1 b ≡ 1
    largest b small = omega (arith, small)

pub other_set : (a b i : ℕ) → bit_at b i ≡ 1 → bit_at (bit_or a b) i ≡ 1
other_set a b i is = bit_at_or a b i ∙ ap (λ n. max (bit_at a i) n) is ∙ largest (bit_at a i) (bit_at-lt a i)
  where
    largest : (b : ℕ) → b < 2 → max b 1 ≡ 1
    largest b small = omega (arith, small)

module _ {K : Type 0} (number : K → ℕ) where
  -- a signature with the bits of these keys
  abbrev pub with_bits : ℕ → List K → ℕ
  with_bits signature [] = signature
  with_bits signature (k ∷ ks) = with_bits (bit_or signature (1 * 2 ^ (number k % 64) % 2 ^ 64)) ks

  small_rest : (a : ℕ) → a % 64 < 64
  small_rest a = omega arith

  -- a bit that is set stays
  bit_stays : (signature i : ℕ) (ks : List K) → bit_at signature i ≡ 1 → bit_at (with_bits signature ks) i ≡ 1
  bit_stays signature i [] is = is
  bit_stays signature i (k ∷ ks) is =
      bit_stays (bit_or signature (1 * 2 ^ (number k % 64) % 2 ^ 64)) i ks
      (either_set signature (1 * 2 ^ (number k % 64) % 2 ^ 64) i is)

  -- all keys have their bits then
  pub all_signed : (signature : ℕ) (ks : List K) → AreSigned number (with_bits signature ks) ks
  all_signed signature [] i d within = All-nil (λ k. bit_at signature (number k % 64) ≡ 1) i d within
  all_signed signature (k ∷ ks) zero d within =
      bit_stays _ (number k % 64) ks (bit_at_set_same w64 signature (number k % 64) (small_rest (number k)))
  all_signed signature (k ∷ ks) (suc i) d within =
      all_signed (bit_or signature (1 * 2 ^ (number k % 64) % 2 ^ 64)) ks i d (omega (arith, within))

  -- where no bit is in both signatures, no key is in both maps
  module _ {X Y : Type 0} {R : K → K → Ordering} (exact : IsAntisymmetric R) (m : FinMap R X) (n : FinMap R Y) (s t : ℕ)
      (own : AreSigned number s (keys m)) (others : AreSigned number t (keys n)) (apart : bit_and s t ≡ 0) where
    not_both : (k : K) (b : Bool) → bit_at s (number k % 64) ≡ 1 → contains_key n k ≡ b → b ≡ false
    not_both k false signed is = refl
    not_both k true signed is =
        let found = Any-from_list_any (eq_by_cmp R k) (keys n) (sym (contains_key-keys n k) ∙ is) in
        let same = same_key R exact k found.1 found.4 in
        let its : bit_at t (number k % 64) ≡ 1 =
        ap (λ x. bit_at t (number x % 64)) (same ∙ sym found.3) ∙ others found.0 found.1 found.2 in
        let both : bit_at 0 (number k % 64) ≡ 1 =
        ap (λ w. bit_at w (number k % 64)) (sym apart) ∙ bit_at_and s t (number k % 64)
        ∙ ap (λ b. min b (bit_at t (number k % 64))) signed ∙ ap (min 1) its in
        let none = sym (bit_at-zero (number k % 64)) ∙ both in
        cc

    pub none_in_both : list_any (contains_key n) (keys m) ≡ false
    none_in_both = list_any_none (contains_key n) (keys m) (λ i d within. not_both _ _ (own i d within) refl)

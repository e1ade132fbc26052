-- The place of the first byte that is this one, as std's list functions have it.
use Rattle.std.proofs.Common.{◌≡◌, ℕ, Bool, true, false, eqb, List, length, Option, None, Some, refl, arith}
use Rattle.std.specs.List.{position, position_or_len}
use Rattle.std.proofs.lemmas.List.Sums.{position_or_len_is}
use Rattle.std.proofs.lemmas.Bool.Decides.{nat_tests}
use Rattle.memchr.specs.Find.{IsFirstByte, is_byte}

false_where : (b : Bool) → (b ≡ true → ⊥) → b ≡ false
false_where true h = absurd (h refl)
false_where false h = refl

-- a byte that is found is there, and none before it
pub first_byte_is : (b : ℕ) (text : List ℕ) (r : Option ℕ) → IsFirstByte (is_byte b) text r
    → r ≡ position (λ x. eqb x b) text
first_byte_is b text (Some k) found =
    let at : position_or_len (λ x. eqb x b) text ≡ k =
    position_or_len_is (λ x. eqb x b) text k 0 (omega (arith, found.0.high))
    (λ j below. false_where _ (λ is. found.0.before j (omega arith) below is)) (λ _. found.1) in
    grind (arith, nat_tests, at, found.0.high)
first_byte_is b text None none =
    let at : position_or_len (λ x. eqb x b) text ≡ length text =
    position_or_len_is (λ x. eqb x b) text (length text) 0 (omega arith)
    (λ j below. false_where _ (λ is. none j (omega arith) below is)) (λ within. absurd (omega arith)) in
    grind (arith, nat_tests, at)

pub ruleset first_bytes = (first_byte_is)

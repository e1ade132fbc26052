-- All items pass a test where each does in its turn.
use Rattle.std.proofs.Common.{◌≡◌, ℕ, Bool, true, false, ◌&&◌, List, [], ◌∷◌, refl}
use Rattle.std.specs.List.{fold, list_all}
use Rattle.iocm_columns.specs.Cards.{is_printable}

none_any_more : (xs : List ℕ) → fold (λ all b. all && is_printable b) false xs ≡ false
none_any_more [] = refl
none_any_more (x ∷ xs) = none_any_more xs

one_more : (xs : List ℕ) (p : Bool) → fold (λ all b. all && is_printable b) true xs ≡ list_all is_printable xs
    → fold (λ all b. all && is_printable b) (true && p) xs ≡ (p && list_all is_printable xs)
one_more xs true rest = rest
one_more xs false rest = none_any_more xs

pub printable_in_turn : (xs : List ℕ) → fold (λ all b. all && is_printable b) true xs ≡ list_all is_printable xs
printable_in_turn [] = refl
printable_in_turn (x ∷ xs) = one_more xs (is_printable x) (printable_in_turn xs)

pub ruleset all_in_turn = (printable_in_turn)

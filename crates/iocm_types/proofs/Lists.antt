-- Lists from a place on.
use Rattle.std.proofs.Common.{◌≡◌, ℕ, ◌+◌, ◌<◌, List, ◌∷◌, length, get_or, drop, sym, ap, ◌∙◌, arith, subst}
use Rattle.std.specs.List.{range_with_len}
use Rattle.std.proofs.lemmas.List.{drop_more}
use Rattle.std.proofs.lemmas.List.FromFn.{length-range_with_len, get_or-range_with_len}

-- the list from place i on begins with the item there
pub drop-item : {A : Type 0} (xs : List A) (i : ℕ) (x : A) → i < length xs → x ≡ get_or xs i x
    → drop i xs ≡ x ∷ drop (i + 1) xs
drop-item xs i x within item = drop_more xs i x within ∙ ap (λ y. y ∷ drop (i + 1) xs) (sym item)

-- the numbers below n from i on begin with i
pub drop-range : (n i : ℕ) → i < n → drop i (range_with_len 0 n) ≡ i ∷ drop (i + 1) (range_with_len 0 n)
drop-range n i within =
    let there : i < length (range_with_len 0 n) = subst (λ k. i < k) (sym (length-range_with_len 0 n)) within in
    let is = get_or-range_with_len 0 n i i within in
    let item : i ≡ get_or (range_with_len 0 n) i i = omega arith in
    drop-item (range_with_len 0 n) i i there item

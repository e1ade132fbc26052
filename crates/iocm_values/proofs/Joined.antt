-- Items that are joined by a byte, and lists that numbers give one after the other.
use Rattle.std.proofs.Common.{◌≡◌, ◌∙◌, ◌+◌, ◌++◌, ◌∷◌, ◌≤◌, ℕ, zero, suc, List, [], length, drop, get_or, ap, sym}
use Rattle.std.proofs.Common.{arith, add-one, append_assoc}
use Rattle.std.specs.List.{flat_map, join_with_byte, range_with_len}
use Rattle.std.proofs.lemmas.List.{append-nil}

-- behind the first each item has the byte before it
pub join_behind : (c : ℕ) (x : List ℕ) (xs : List (List ℕ)) → join_with_byte c (x ∷ xs) ≡ x ++ flat_map (λ y. c ∷ y) xs
join_behind c x [] = sym (append-nil x)
join_behind c x (y ∷ ys) = ap (λ r. x ++ (c ∷ r)) (join_behind c y ys)

-- the same of items of which there is a first
pub join_from_first : (c : ℕ) (xs : List (List ℕ)) (d : List ℕ) → 1 ≤ length xs
    → join_with_byte c xs ≡ get_or xs 0 d ++ flat_map (λ y. c ∷ y) (drop 1 xs)
join_from_first c [] d some = absurd (omega (arith, some))
join_from_first c (x ∷ xs) d some = join_behind c x xs

-- what one number more gives stands behind what those before it give
flat_map_next : {X : Type 0} (f : ℕ → List X) (a n j : ℕ) → a + n ≡ j
    → flat_map f (range_with_len a (suc n)) ≡ flat_map f (range_with_len a n) ++ f j
flat_map_next f a zero j e = append-nil (f a) ∙ ap f (omega (arith, e))
flat_map_next f a (suc n) j e =
    ap (λ r. f a ++ r) (flat_map_next f (a + 1) n j (omega (arith, e)))
    ∙ sym (append_assoc (f a) (flat_map f (range_with_len (a + 1) n)) (f j))

pub flat_map_more : {X : Type 0} (f : ℕ → List X) (a n j : ℕ) → a + n ≡ j
    → flat_map f (range_with_len a (n + 1)) ≡ flat_map f (range_with_len a n) ++ f j
flat_map_more f a n j e = ap (λ k. flat_map f (range_with_len a k)) (add-one n) ∙ flat_map_next f a n j e

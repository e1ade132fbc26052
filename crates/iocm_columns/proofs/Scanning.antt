-- The columns that belong to a part, column by column.
use Rattle.std.proofs.Common.{◌≡◌, ℕ, zero, suc, ◌+◌, ◌<◌, Bool, true, false, List, [], ◌∷◌, ◌++◌, length, get_or, take}
use Rattle.std.proofs.Common.{drop, slice_index, eqb, fold, refl, sym, ap, ◌∙◌, ◌≤◌, arith}
use Rattle.std.proofs.lemmas.Bool.{or_parts}
use Rattle.std.proofs.lemmas.List.{take_more, drop_more, append-nil, append_assoc, take_all}
use Rattle.std.proofs.lemmas.List.Sums.{fold_more}
use Rattle.std.proofs.Math.ListN.{drop_of_length-le}
use Rattle.memchr.specs.Find.{is_byte2}
use Rattle.iocm_columns.specs.Part.{ends, front, switched}

-- the front ends at this column
pub front_ends : (inside : Bool) (xs : List ℕ) (i : ℕ) → i < length xs → ends inside (get_or xs i 0) ≡ true
    → take i xs ++ front inside (drop i xs) ≡ take i xs
unfolding front
front_ends inside xs i within is =
    rw (drop_more xs i 0 within, is, append-nil (take i xs)) refl

-- the front goes on behind this column
pub front_goes_on : (inside : Bool) (xs : List ℕ) (i : ℕ) → i < length xs → ends inside (get_or xs i 0) ≡ false
    → take i xs ++ front inside (drop i xs) ≡ take (i + 1) xs
    ++ front (switched inside (get_or xs i 0)) (drop (i + 1) xs)
unfolding front
front_goes_on inside xs i within is =
    rw (drop_more xs i 0 within, is, take_more xs i 0 within)
    (sym (append_assoc (take i xs) (get_or xs i 0 ∷ []) (front (switched inside (get_or xs i 0)) (drop (i + 1) xs))))

-- the front is all
pub front_is_all : (inside : Bool) (xs : List ℕ) (i : ℕ) → length xs ≤ i
    → take i xs ++ front inside (drop i xs) ≡ take (length xs) xs
unfolding front
front_is_all inside xs i past =
    rw (drop_of_length-le xs past, append-nil (take i xs))
    (take_all i xs past ∙ sym (take_all (length xs) xs (omega arith)))

-- columns without a blank and a quote belong to the front, and leave inside as it is
pub front_plain : (inside : Bool) (xs : List ℕ) (n : ℕ) → ((i : ℕ) → i < n → is_byte2 32 39 (slice_index xs i) ≡ false)
    → n ≤ length xs
    → take n xs ++ front inside (drop n xs) ≡ front inside xs
unfolding front ends switched
front_plain inside xs zero plain within = refl
front_plain inside [] (suc n) plain within = elim within [ ]
front_plain inside (x ∷ xs) (suc n) plain within =
    let first : (eqb x 32 ≡ false) × (eqb x 39 ≡ false) = or_parts (eqb x 32) (eqb x 39) (plain 0 (omega arith)) in
    rw (first.0, first.1) (ap (λ ys. x ∷ ys)
    (front_plain inside xs n (λ i below. plain (suc i) (omega (arith, below))) (omega (arith, within))))

pub quoting_plain : (inside : Bool) (xs : List ℕ) (n : ℕ)
    → ((i : ℕ) → i < n → is_byte2 32 39 (slice_index xs i) ≡ false) → n ≤ length xs
    → inside ≡ fold switched inside (take n xs)
unfolding switched
quoting_plain inside xs zero plain within = refl
quoting_plain inside [] (suc n) plain within = elim within [ ]
quoting_plain inside (x ∷ xs) (suc n) plain within =
    let first : (eqb x 32 ≡ false) × (eqb x 39 ≡ false) = or_parts (eqb x 32) (eqb x 39) (plain 0 (omega arith)) in
    rw (first.1, fold) (quoting_plain inside xs n (λ i below. plain (suc i) (omega (arith, below)))
    (omega (arith, within)))

pub ruleset scanning = (front_ends, front_goes_on, front_is_all, front_plain, quoting_plain, fold_more, take_all)

-- The first gap in rising numbers.
use Rattle.std.proofs.Common.{◌≡◌, ℕ, ◌+◌, ◌<◌, ◌≤◌, ◌==◌, ◌&&◌, nat_eq, Bool, true, false, cond, T, List, [], ◌∷◌}
use Rattle.std.proofs.Common.{length, map, filter, refl, sym, ◌∙◌, arith}
use Rattle.std.proofs.lemmas.Bool.{and_parts, eqb-true, eqb-false}
use Rattle.std.specs.List.{list_any}
use Rattle.std.specs.Ordering.{nat_cmp, is_lt}
use Rattle.std.specs.Cmp.{ranked}
use Rattle.std.specs.declared.cmp.Ordering.{Ordering}
use Rattle.std.specs.declared.cmp.Ordering.TheVariants.{Less, Equal, Greater}
use Rattle.std.specs.FinMap.{entries, entries_sorted, is_sorted}
use Rattle.std.specs.FinMap.Entries.{below_all}
use Rattle.iocm_types.specs.declared.place.NumberCell.{NumberCell}
use Rattle.iocm_types.specs.Place.{cell_cmp}
use Rattle.iocm_types.proofs.Tests.{first_holds, second_holds}
use Rattle.iocm_types.proofs.Orderings.{ties}
use Rattle.iocm_model.specs.Machine.Numbering.{Numbering, cells_of}
use Rattle.iocm_model.specs.Change.Renumbering.{gap_from, numbers_in}
use Rattle.iocm_model.specs.Laws.Numbers.{LowestFreeIsFree, LowestFreeIsFound}

-- numbers that strictly rise, the first at least n
pub rises_from : ℕ → List ℕ → Type 0
rises_from n [] = Unit {0}
rises_from n (x ∷ xs) = (n ≤ x) × rises_from (x + 1) xs

rises_lower : (m n : ℕ) (xs : List ℕ) → m ≤ n → rises_from n xs → rises_from m xs
unfolding rises_from
rises_lower m n [] le r = tt
rises_lower m n (x ∷ xs) le r = (let w = r.0 in omega arith, r.1)

-- a number below all isn't among them
not_below : (k n : ℕ) (xs : List ℕ) → k < n → rises_from n xs → list_any (nat_eq k) xs ≡ false
unfolding rises_from
not_below k n [] lt r = refl
not_below k n (x ∷ xs) lt r =
    let w = r.0 in
    let other : nat_eq k x ≡ false = grind arith in
    rw other (not_below k (x + 1) xs (omega arith) r.1)

above_at : (b : Bool) (n : ℕ) (xs : List ℕ) → n + 1 ≤ gap_from (n + 1) xs → n ≤ cond b (gap_from (n + 1) xs) n
above_at true n xs later = omega arith
above_at false n xs later = omega arith

-- the gap is at least the number it is sought from
gap_above : (n : ℕ) (xs : List ℕ) → n ≤ gap_from n xs
unfolding gap_from
gap_above n [] = omega arith
gap_above n (x ∷ xs) = above_at (nat_eq x n) n xs (gap_above (n + 1) xs)

free_at : (b : Bool) (n x : ℕ) (xs : List ℕ) → nat_eq x n ≡ b → n ≤ x → rises_from (x + 1) xs
    → (rises_from (n + 1) xs → list_any (nat_eq (gap_from (n + 1) xs)) xs ≡ false)
    → list_any (nat_eq (cond b (gap_from (n + 1) xs) n)) (x ∷ xs) ≡ false
free_at true n x xs is le r later =
    let same : x ≡ n = eqb-true x n is in
    let above : n + 1 ≤ gap_from (n + 1) xs = gap_above (n + 1) xs in
    let other : nat_eq (gap_from (n + 1) xs) x ≡ false = grind arith in
    rw other (later (rises_lower (n + 1) (x + 1) xs (omega arith) r))
free_at false n x xs is le r later =
    let apart : nat_eq n x ≡ false = grind (arith, eqb-false) in
    rw apart (not_below n (x + 1) xs (omega arith) r)

-- it is not among them
pub gap_free : (n : ℕ) (xs : List ℕ) → rises_from n xs → list_any (nat_eq (gap_from n xs)) xs ≡ false
unfolding gap_from rises_from
gap_free n [] r = refl
gap_free n (x ∷ xs) r = free_at (nat_eq x n) n x xs refl r.0 r.1 (gap_free (n + 1) xs)

used_at : (b c : Bool) (n x k : ℕ) (xs : List ℕ) → nat_eq x n ≡ b → nat_eq k x ≡ c → n ≤ k
    → k < cond b (gap_from (n + 1) xs) n
    → (n + 1 ≤ k → k < gap_from (n + 1) xs → list_any (nat_eq k) xs ≡ true) → list_any (nat_eq k) (x ∷ xs) ≡ true
used_at true true n x k xs is here le lt later = rw here refl
used_at true false n x k xs is here le lt later =
    let same : x ≡ n = eqb-true x n is in
    let apart : n + 1 ≤ k = grind (arith, eqb-false) in
    rw here (later apart lt)
used_at false c n x k xs is here le lt later = absurd (omega arith)

-- each smaller number is among them
pub gap_lowest : (n : ℕ) (xs : List ℕ) (k : ℕ) → n ≤ k → k < gap_from n xs → list_any (nat_eq k) xs ≡ true
unfolding gap_from
gap_lowest n [] k le lt = absurd (omega arith)
gap_lowest n (x ∷ xs) k le lt = used_at (nat_eq x n) (nat_eq k x) n x k xs refl refl le lt (gap_lowest (n + 1) xs k)

most_at : (b : Bool) (n m : ℕ) (xs : List ℕ) → gap_from (n + 1) xs ≤ n + 1 + m
    → cond b (gap_from (n + 1) xs) n ≤ n + (m + 1)
most_at true n m xs later = omega arith
most_at false n m xs later = omega arith

-- there are at least as many of them as it is above the number it is sought from
pub gap_most : (n : ℕ) (xs : List ℕ) → gap_from n xs ≤ n + length xs
unfolding gap_from
gap_most n [] = omega arith
gap_most n (x ∷ xs) = let step = most_at (nat_eq x n) n (length xs) xs (gap_most (n + 1) xs) in omega arith

pub less : (a b : ℕ) → T (is_lt (nat_cmp a b)) → a < b
less a b h = by_order (nat_cmp a b) refl h
  where
    by_order : (o : Ordering) → nat_cmp a b ≡ o → T (is_lt o) → a < b
    by_order Less e h = ranked a b Less (sym e)
    by_order Equal e h = absurd h
    by_order Greater e h = absurd h

-- of two cells of one set the one in front has the smaller number
smaller_number : (x y : NumberCell) → x.css ≡ y.css → x.set ≡ y.set → T (is_lt (cell_cmp x y)) → x.number < y.number
smaller_number x y css set h = less x.number y.number (rw (ties x.css y.css css, ties x.set y.set set) at h)

-- a cell of this channel subsystem and set
is_in : ℕ → ℕ → NumberCell × ℕ → Bool
is_in css set e = e.0.css == css && e.0.set == set

-- the cells of the set have numbers from m on
AtLeast : ℕ → ℕ → ℕ → List (NumberCell × ℕ) → Type 0
AtLeast css set m [] = Unit {0}
AtLeast css set m (e ∷ es) = (is_in css set e ≡ true → m ≤ e.0.number) × AtLeast css set m es

from_first : (css set : ℕ) (x : NumberCell × ℕ) (es : List (NumberCell × ℕ)) → is_in css set x ≡ true
    → T (below_all cell_cmp x.0 es) → AtLeast css set (x.0.number + 1) es
unfolding AtLeast is_in
from_first css set x [] here h = tt
from_first css set x (e ∷ es) here h = (
  (λ there. let p = and_parts _ _ here in let q = and_parts _ _ there in
      let w = smaller_number x.0 e.0 (eqb-true x.0.css css p.0 ∙ sym (eqb-true e.0.css css q.0))
      (eqb-true x.0.set set p.1 ∙ sym (eqb-true e.0.set set q.1))
      (first_holds _ _ h) in omega arith),
  from_first css set x es here (second_holds _ _ h),
)

numbers_of : ℕ → ℕ → List (NumberCell × ℕ) → List ℕ
numbers_of css set es = map (λ (e : NumberCell × ℕ). e.0.number)
    (filter (λ (e : NumberCell × ℕ). e.0.css == css && e.0.set == set) es)

rises_at : (b : Bool) (css set m : ℕ) (x : NumberCell × ℕ) (es : List (NumberCell × ℕ)) → is_in css set x ≡ b
    → (is_in css set x ≡ true → m ≤ x.0.number) → T (below_all cell_cmp x.0 es) → AtLeast css set m es
    → ((k : ℕ) → AtLeast css set k es → rises_from k (numbers_of css set es))
    → rises_from m (numbers_of css set (x ∷ es))
unfolding rises_from numbers_of is_in
rises_at true css set m x es is first below rest later =
    rw is (first is, later (x.0.number + 1) (from_first css set x es is below))
rises_at false css set m x es is first below rest later = rw is (later m rest)

rises_all : (css set m : ℕ) (es : List (NumberCell × ℕ)) → T (is_sorted cell_cmp es) → AtLeast css set m es
    → rises_from m (numbers_of css set es)
unfolding AtLeast numbers_of rises_from
rises_all css set m [] sorted rest = tt
rises_all css set m (x ∷ es) sorted rest =
    rises_at (is_in css set x) css set m x es refl rest.0 (first_holds _ _ sorted) rest.1
    (λ k at. rises_all css set k es (second_holds _ _ sorted) at)

from_zero : (css set : ℕ) (es : List (NumberCell × ℕ)) → AtLeast css set 0 es
unfolding AtLeast
from_zero css set [] = tt
from_zero css set (e ∷ es) = ((λ h. omega arith), from_zero css set es)

rising : (n : Numbering) (css set : ℕ) → rises_from 0 (numbers_in n css set)
unfolding numbers_of
rising n css set = rises_all css set 0 (entries (cells_of n)) (entries_sorted (cells_of n))
    (from_zero css set (entries (cells_of n)))

pub lowest_free_is_free : LowestFreeIsFree
lowest_free_is_free n css set = record {
  free = gap_free 0 (numbers_in n css set) (rising n css set);
  lowest = λ k lt. gap_lowest 0 (numbers_in n css set) k (omega arith) lt;
}

pub lowest_free_is_found : LowestFreeIsFound
lowest_free_is_found n css set most few = let w = gap_most 0 (numbers_in n css set) in omega arith

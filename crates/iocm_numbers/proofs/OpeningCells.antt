-- The number cells of the rows at opening are in order.
use Rattle.std.proofs.Common.{◌≡◌, ℕ, ◌+◌, ◌<◌, List, [], ◌∷◌, ◌++◌, T, refl, sym, ap, subst, ◌∙◌, arith}
use Rattle.std.proofs.lemmas.List.{map-append}
use Rattle.std.specs.Cmp.{nat_cmp_is}
use Rattle.std.specs.List.{flat_map, AllByRecursion}
use Rattle.std.specs.Ordering.{is_lt, nat_cmp, ordering_then}
use Rattle.std.specs.declared.cmp.Ordering.TheVariants.{Less}
use Rattle.std.specs.FinMap.{entries, find, from_entries, from_sorted, is_sorted, entries-from_sorted, get-entries}
use Rattle.std.specs.FinMap.{get-from_entries, same_map}
use Rattle.std.specs.FinMap.Entries.{below_all}
use Rattle.iocm_types.specs.declared.place.NumberCell.{NumberCell}
use Rattle.iocm_types.specs.declared.place.Place.{Place}
use Rattle.iocm_types.specs.Place.{cell_cmp}
use Rattle.iocm_types.specs.KeyOrder.{cells_total, cells_exact}
use Rattle.iocm_types.proofs.Tests.{both_hold, first_holds, second_holds}
use Rattle.iocm_types.proofs.Orderings.{ties}
use Rattle.iocm_model.specs.Machine.Configuration.{Configuration, IsKeyed}
use Rattle.iocm_model.specs.Machine.Numbering.{cells_of, numbers_from, opening, reached_devices, sets, subsystems}
use Rattle.iocm_numbers.specs.Opening.{rows_at_opening}
use Rattle.iocm_numbers.specs.TiedTables.{cells_in}
use Rattle.iocm_numbers.proofs.Built.{cells_same}
use Rattle.iocm_numbers.proofs.FirstPlaces.{numbers_apart, places_distinct}

abbrev Cells : Type 0
Cells = List (NumberCell × ℕ)

-- ---- cells in order, one part after the other

-- a cell is before all of two parts
below_both : (k : NumberCell) (xs ys : Cells) → T (below_all cell_cmp k xs) → T (below_all cell_cmp k ys)
    → T (below_all cell_cmp k (xs ++ ys))
below_both k [] ys a b = b
below_both k (x ∷ xs) ys a b = both_hold _ _ (first_holds _ _ a) (below_both k xs ys (second_holds _ _ a) b)

-- each cell of a part is before all of another
abbrev IsBefore : Cells → Cells → Type 0
IsBefore xs ys = AllByRecursion (λ e. T (below_all cell_cmp e.0 ys)) xs

before_both : (xs ys zs : Cells) → IsBefore xs ys → IsBefore xs zs → IsBefore xs (ys ++ zs)
before_both [] ys zs a b = tt
before_both (x ∷ xs) ys zs a b = (below_both x.0 ys zs a.0 b.0, before_both xs ys zs a.1 b.1)

before_none : (xs : Cells) → IsBefore xs []
before_none [] = tt
before_none (x ∷ xs) = (tt, before_none xs)

sorted_both : (xs ys : Cells) → T (is_sorted cell_cmp xs) → T (is_sorted cell_cmp ys) → IsBefore xs ys
    → T (is_sorted cell_cmp (xs ++ ys))
sorted_both [] ys a b before = b
sorted_both (x ∷ xs) ys a b before =
    both_hold _ _ (below_both x.0 xs ys (first_holds _ _ a) before.0)
    (sorted_both xs ys (second_holds _ _ a) b before.1)

-- numbers that rise
abbrev Rise : List ℕ → Type 0
Rise [] = Unit {0}
Rise (n ∷ ns) = AllByRecursion (λ m. n < m) ns × Rise ns

-- parts in order, each before those of greater numbers
module _ (part : ℕ → Cells) (before : (n m : ℕ) → n < m → IsBefore (part n) (part m)) where
  before_all : (n : ℕ) (ms : List ℕ) → AllByRecursion (λ m. n < m) ms → IsBefore (part n) (flat_map part ms)
  before_all n [] less = before_none (part n)
  before_all n (m ∷ ms) less =
      before_both (part n) (part m) (flat_map part ms) (before n m less.0) (before_all n ms less.1)

  sorted_all : ((n : ℕ) → T (is_sorted cell_cmp (part n))) → (ns : List ℕ) → Rise ns
      → T (is_sorted cell_cmp (flat_map part ns))
  sorted_all sorted [] rise = tt
  sorted_all sorted (n ∷ ns) rise =
      sorted_both (part n) (flat_map part ns) (sorted n) (sorted_all sorted ns rise.1) (before_all n ns rise.0)

-- ---- the cells of a set

abbrev cell : ℕ → ℕ → ℕ → NumberCell
cell css set number = record { css = css; set = set; number = number }

less_css : (a b s t n m : ℕ) → a < b → cell_cmp (cell a s n) (cell b t m) ≡ Less
less_css a b s t n m less =
    ap (λ r. ordering_then r (ordering_then (nat_cmp s t) (nat_cmp n m))) (sym (nat_cmp_is a b Less less))

less_set : (a s t n m : ℕ) → s < t → cell_cmp (cell a s n) (cell a t m) ≡ Less
less_set a s t n m less =
    ap (λ r. ordering_then r (ordering_then (nat_cmp s t) (nat_cmp n m))) (ties a a refl)
    ∙ ap (λ r. ordering_then r (nat_cmp n m)) (sym (nat_cmp_is s t Less less))

less_number : (a s n m : ℕ) → n < m → cell_cmp (cell a s n) (cell a s m) ≡ Less
less_number a s n m less =
    ap (λ r. ordering_then r (ordering_then (nat_cmp s s) (nat_cmp n m))) (ties a a refl)
    ∙ ap (λ r. ordering_then r (nat_cmp n m)) (ties s s refl)
    ∙ sym (nat_cmp_is n m Less less)

is_less : (a b : NumberCell) → cell_cmp a b ≡ Less → T (is_lt (cell_cmp a b))
is_less a b less = subst (λ r. T (is_lt r)) (sym less) tt

-- the cells of a set with numbers from one on
abbrev of_set : ℕ → ℕ → ℕ → List ℕ → Cells
of_set css set n ds = cells_in (numbers_from css set n ds)

below_number : (css set k n : ℕ) (ds : List ℕ) → k < n → T (below_all cell_cmp (cell css set k) (of_set css set n ds))
below_number css set k n [] less = tt
below_number css set k n (d ∷ ds) less =
    both_hold _ _ (is_less (cell css set k) (cell css set n) (less_number css set k n less))
    (below_number css set k (n + 1) ds (omega arith))

sorted_set : (css set n : ℕ) (ds : List ℕ) → T (is_sorted cell_cmp (of_set css set n ds))
sorted_set css set n [] = tt
sorted_set css set n (d ∷ ds) =
    both_hold _ _ (below_number css set n (n + 1) ds (omega arith)) (sorted_set css set (n + 1) ds)

below_set : (k : NumberCell) (css set n : ℕ) (ds : List ℕ) → ((m : ℕ) → cell_cmp k (cell css set m) ≡ Less)
    → T (below_all cell_cmp k (of_set css set n ds))
below_set k css set n [] less = tt
below_set k css set n (d ∷ ds) less =
    both_hold _ _ (is_less k (cell css set n) (less n)) (below_set k css set (n + 1) ds less)

set_before : (css set n : ℕ) (ds : List ℕ) (ys : Cells) → ((m : ℕ) → T (below_all cell_cmp (cell css set m) ys))
    → IsBefore (of_set css set n ds) ys
set_before css set n [] ys below = tt
set_before css set n (d ∷ ds) ys below = (below n, set_before css set (n + 1) ds ys below)

-- ---- those of a channel subsystem, and of all

module _ (devices : ℕ → ℕ → List ℕ) where
  abbrev in_set : ℕ → ℕ → Cells
  in_set css set = of_set css set 0 (devices css set)

  abbrev in_css : ℕ → Cells
  in_css css = flat_map (in_set css) sets

  sets_apart : (css s t : ℕ) → s < t → IsBefore (in_set css s) (in_set css t)
  sets_apart css s t less = set_before css s 0 (devices css s) (in_set css t)
      (λ m. below_set (cell css s m) css t 0 (devices css t) (λ n. less_set css s t m n less))

  below_css : (a b s m : ℕ) (ts : List ℕ) → a < b → T (below_all cell_cmp (cell a s m) (flat_map (in_set b) ts))
  below_css a b s m [] less = tt
  below_css a b s m (t ∷ ts) less = below_both (cell a s m) (in_set b t) (flat_map (in_set b) ts)
      (below_set (cell a s m) b t 0 (devices b t) (λ n. less_css a b s t m n less)) (below_css a b s m ts less)

  before_append : (xs ys zs : Cells) → IsBefore xs zs → IsBefore ys zs → IsBefore (xs ++ ys) zs
  before_append [] ys zs a b = b
  before_append (x ∷ xs) ys zs a b = (a.0, before_append xs ys zs a.1 b)

  css_apart_in : (a b : ℕ) (ss : List ℕ) → a < b → IsBefore (flat_map (in_set a) ss) (in_css b)
  css_apart_in a b [] less = tt
  css_apart_in a b (s ∷ ss) less = before_append (in_set a s) (flat_map (in_set a) ss) (in_css b)
      (set_before a s 0 (devices a s) (in_css b) (λ m. below_css a b s m sets less)) (css_apart_in a b ss less)

  sorted_css : (css : ℕ) → T (is_sorted cell_cmp (in_css css))
  sorted_css css = sorted_all (in_set css) (sets_apart css) (λ s. sorted_set css s 0 (devices css s)) sets (
    (omega arith, (omega arith, (omega arith, tt))),
    ((omega arith, (omega arith, tt)), ((omega arith, tt), (tt, tt))),
  )

  sorted_cells : T (is_sorted cell_cmp (flat_map in_css subsystems))
  sorted_cells = sorted_all in_css (λ a b less. css_apart_in a b sets less) sorted_css subsystems (
    (omega arith, (omega arith, (omega arith, (omega arith, (omega arith, tt))))),
    (
      (omega arith, (omega arith, (omega arith, (omega arith, tt)))),
      (
        (omega arith, (omega arith, (omega arith, tt))),
        ((omega arith, (omega arith, tt)), ((omega arith, tt), (tt, tt))),
      ),
    ),
  )

-- the cells of parts are the parts' cells
cells_in-flat_map : {A : Type 0} (f : A → List (Place × ℕ)) (xs : List A)
    → cells_in (flat_map f xs) ≡ flat_map (λ x. cells_in (f x)) xs
cells_in-flat_map f [] = refl
cells_in-flat_map f (x ∷ xs) =
    map-append _ (f x) (flat_map f xs) ∙ ap (λ ys. cells_in (f x) ++ ys) (cells_in-flat_map f xs)

module _ (c : Configuration) where
  abbrev rows_in : ℕ → List (Place × ℕ)
  rows_in css = flat_map (λ set. numbers_from css set 0 (reached_devices c css set)) sets

  parts : cells_in (rows_at_opening c) ≡ flat_map (in_css (reached_devices c)) subsystems
  parts = cells_in-flat_map rows_in subsystems
      ∙ (λ i. flat_map (λ css. cells_in-flat_map (λ set. numbers_from css set 0 (reached_devices c css set)) sets i)
      subsystems)

  rows_sorted : T (is_sorted cell_cmp (cells_in (rows_at_opening c)))
  rows_sorted = subst (λ (es : Cells). T (is_sorted cell_cmp es)) (sym parts) (sorted_cells (reached_devices c))

  -- a map of entries in order has these entries
  entries_in_order : (es : Cells) → T (is_sorted cell_cmp es) → entries (from_entries {R = cell_cmp} es) ≡ es
  entries_in_order es sorted =
      ap entries (same_map cells_total cells_exact (from_entries {R = cell_cmp} es) (from_sorted {R = cell_cmp} es)
      (λ q. get-from_entries cells_total es q
      ∙ sym (get-entries (from_sorted {R = cell_cmp} es) q
      ∙ ap (find cell_cmp q) (entries-from_sorted cell_cmp es sorted))))
      ∙ entries-from_sorted cell_cmp es sorted

  -- the cells of the rows at opening are those of the numbers at opening
  pub opening_cells_are : IsKeyed c → cells_in (rows_at_opening c) ≡ entries (cells_of (opening c))
  opening_cells_are keyed =
      sym (entries_in_order (cells_in (rows_at_opening c)) rows_sorted)
      ∙ ap entries (cells_same (rows_at_opening c) (places_distinct c keyed) (numbers_apart c))

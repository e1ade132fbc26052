-- Namings that are listed one by one, and the rows of namings in order.
use Rattle.std.proofs.Common.{◌≡◌, ℕ, zero, suc, ◌+◌, Some, is_some, List, [], ◌∷◌, ◌++◌, map, slice_get, take}
use Rattle.std.proofs.Common.{append_assoc, arith, refl, sym, ap, subst, ◌∙◌}
use Rattle.std.specs.List.{list_any, IsDistinct}
use Rattle.std.specs.List.Sorted.{IsStrictlySortedBy}
use Rattle.std.specs.Ordering.{eq_by_cmp}
use Rattle.std.specs.Map.{keys_of}
use Rattle.std.specs.FinMap.{from_entries, contains_key, get-from_entries}
use Rattle.std.specs.FinMap.Entries.{is_some-find}
use Rattle.std.proofs.lemmas.Map.Keys.{IsDistinct-from_sorted}
use Rattle.iocm_types.specs.declared.naming.Naming.{Naming}
use Rattle.iocm_types.specs.Naming.{naming_cmp}
use Rattle.iocm_index.specs.Namings.{as_row}
use Rattle.iocm_index.proofs.Front.{namings_total}

-- ---- one by one

take_one : {A : Type 0} (xs : List A) (i : ℕ) (x : A) → slice_get xs i ≡ Some x → take (suc i) xs ≡ take i xs ++ x ∷ []
take_one [] i x is = cc
take_one {A = A} (y ∷ ys) zero x is = ap (λ z. z ∷ []) (some_same y x is)
  where
    some_same : (a b : A) → slice_get (a ∷ ys) 0 ≡ Some b → a ≡ b
    some_same a b e = cc
take_one (y ∷ ys) (suc i) x is = ap (λ zs. y ∷ zs) (take_one ys i x is)

-- behind what was listed, one more
pub one_listed : {A : Type 0} (xs start now next : List A) (i : ℕ) (x : A) → slice_get xs i ≡ Some x
    → now ≡ start ++ take i xs → next ≡ now ++ x ∷ []
    → next ≡ start ++ take (i + 1) xs
one_listed xs start now next i x is before pushed =
    let longer : i + 1 ≡ suc i = omega arith in
    pushed ∙ ap (λ zs. zs ++ x ∷ []) before ∙ append_assoc start (take i xs) (x ∷ [])
    ∙ ap (λ zs. start ++ zs) (sym (take_one xs i x is)) ∙ ap (λ n. start ++ take n xs) (sym longer)

-- ---- rows

keys_again : (ns : List Naming) → keys_of (map as_row ns) ≡ ns
keys_again [] = refl
keys_again (n ∷ ns) = ap (λ ks. n ∷ ks) (keys_again ns)

-- the rows of namings in order have each its own key
pub apart : (ns : List Naming) → IsStrictlySortedBy naming_cmp ns
    → IsDistinct (eq_by_cmp naming_cmp) (keys_of (map as_row ns))
apart ns rise = IsDistinct-from_sorted naming_cmp (keys_of (map as_row ns))
    (subst (IsStrictlySortedBy naming_cmp) (sym (keys_again ns)) rise)

-- a naming is in the set of some rows where it is one of theirs
pub in_rows : (ns : List Naming) (n : Naming)
    → contains_key (from_entries {R = naming_cmp} (map as_row ns)) n ≡ list_any (eq_by_cmp naming_cmp n) ns
in_rows ns n = ap is_some (get-from_entries namings_total (map as_row ns) n) ∙ is_some-find naming_cmp n (map as_row ns)
    ∙ ap (list_any (eq_by_cmp naming_cmp n)) (keys_again ns)

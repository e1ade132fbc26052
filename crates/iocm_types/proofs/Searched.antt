-- Rows in the order of their keys: what a binary search finds among them is what the map of these
-- rows has.
use Rattle.std.proofs.Common.{◌≡◌, ℕ, zero, suc, ◌+◌, ◌<◌, Bool, true, false, cond, T, List, [], ◌∷◌, length, get_or}
use Rattle.std.proofs.Common.{Option, Some, None, inl, inr, refl, sym, ap, subst, ◌∙◌, arith}
use Rattle.std.proofs.lemmas.Bool.{cases_lt}
use Rattle.std.proofs.lemmas.List.{get_or-map}
use Rattle.std.proofs.lemmas.List.Sorted.{searchable_from_sorted}
use Rattle.std.proofs.lemmas.Map.Entries.{length-keys_of}
use Rattle.std.proofs.lemmas.Map.Keys.{Less-from_sorted}
use Rattle.std.specs.Cmp.{IsTotalOrder, tied_itself}
use Rattle.std.specs.FinMap.{IsAntisymmetric, find, from_sorted, get, get-from_sorted, is_sorted}
use Rattle.std.specs.List.Sorted.{IsStrictlySortedBy, IsSortedBy, IsNonDecreasingBy, IsPartitionPoint}
use Rattle.std.specs.Map.{keys_of}
use Rattle.std.specs.Ordering.{eq_by_cmp, is_lt, ordering_index, ordering_reverse}
use Rattle.std.specs.declared.cmp.Ordering.{Ordering}
use Rattle.std.specs.declared.cmp.Ordering.TheVariants.{Less, Equal, Greater}
use Rattle.iocm_types.proofs.Found.{found_first, found_later, same_key}
use Rattle.iocm_types.proofs.Tests.{first_holds, second_holds}
use Rattle.iocm_types.proofs.InOrder.{keys_rise}

not_below : (r s : Ordering) → s ≡ ordering_reverse r → r ≡ Less → is_lt s ≡ false
not_below r s turned less = ap is_lt (turned ∙ ap ordering_reverse less)

less_or_equal : (r : Ordering) → r ≡ Less → r ≡ Equal → ⊥
less_or_equal r less equal = cc

greater_or_equal : (r : Ordering) → r ≡ Greater → r ≡ Equal → ⊥
greater_or_equal r greater equal = cc

module _ {K X : Type 0} (R : K → K → Ordering) where
  module _ (total : IsTotalOrder R) where
    -- they can be searched so
    pub searchable : (es : List (K × X)) (q : K) → IsStrictlySortedBy R (keys_of es)
        → IsNonDecreasingBy (λ e. ordering_index (R e.0 q)) es
    searchable es q h = searchable_from_sorted total (λ e. e.0) es q sorted
      where
        key_of : K × X → K
        key_of e = e.0

        sorted : IsSortedBy (λ a b. is_lt (R (key_of a) (key_of b))) es
        sorted k d low within =
            let more : k < length es = omega (arith, within) in
            let all : length (keys_of es) ≡ length es = length-keys_of es in
            let here : get_or (keys_of es) k d.0 ≡ (get_or es k d).0 =
            get_or-map (λ (e : K × X). e.0) es k d d.0 more in
            let next : get_or (keys_of es) (k + 1) d.0 ≡ (get_or es (k + 1) d).0 =
            get_or-map (λ (e : K × X). e.0) es (k + 1) d d.0 within in
            let less = Less-from_sorted R (keys_of es) k (k + 1) d.0 h (omega arith) (omega (arith, within, all)) in
            not_below (R (get_or es k d).0 (get_or es (k + 1) d).0) _ (total.antisymm _ _)
            (subst (λ a. R a (get_or es (k + 1) d).0 ≡ Less) here
            (subst (λ b. R (get_or (keys_of es) k d.0) b ≡ Less) next less))

    module _ (exact : IsAntisymmetric R) where
      -- what ties with the key of a row finds it
      pub found_at : (es : List (K × X)) (at : ℕ) (q : K) (d : K × X) → T (is_sorted R es) → at < length es
          → R (get_or es at d).0 q ≡ Equal
          → find R q es ≡ Some (get_or es at d).1
      found_at [] at q d up within ties = absurd (omega (arith, within))
      found_at (e ∷ es) zero q d up within ties =
          subst (λ k. find R k (e ∷ es) ≡ Some e.1) (exact e.0 q ties) (found_first R total exact e es)
      found_at (e ∷ es) (suc at) q d up within ties =
          found_later R total exact q e es _ (first_holds _ _ up)
          (found_at es at q d (second_holds _ _ up) (omega (arith, within)) ties)

      none_first : (q : K) (e : K × X) (rest : Option X) (b : Bool) → eq_by_cmp R q e.0 ≡ b → (R e.0 q ≡ Equal → ⊥)
          → rest ≡ None → cond b (Some e.1) rest ≡ None
      none_first q e rest true tie apart none =
          absurd (apart (ap (λ k. R k q) (sym (same_key R exact q e.0 tie)) ∙ tied_itself total q))
      none_first q e rest false tie apart none = none

      -- what ties with no key finds none
      pub not_found_at : (es : List (K × X)) (q : K)
          → ((k : ℕ) (d : K × X) → k < length es → R (get_or es k d).0 q ≡ Equal → ⊥) → find R q es ≡ None
      not_found_at [] q apart = refl
      not_found_at (e ∷ es) q apart = none_first q e (find R q es) (eq_by_cmp R q e.0) refl (apart zero e (omega arith))
          (not_found_at es q (λ k d within. apart (suc k) d (omega (arith, within))))

      -- nor does a key for which there is a gap
      pub not_found_in_gap : (es : List (K × X)) (gap : ℕ) (q : K)
          → IsPartitionPoint (λ (e : K × X). R e.0 q ≡ Less) (λ (e : K × X). R e.0 q ≡ Greater) es gap
          → find R q es ≡ None
      not_found_in_gap es gap q parts = not_found_at es q (λ k d within. elim (cases_lt k gap) [
        | inl before ↦ less_or_equal _ (parts.0 k d (omega arith) before)
        | inr behind ↦ greater_or_equal _ (parts.1 k d behind within)
      ])

-- what a binary search says of a key in the order by which it compares is what the map has in the
-- order that clauses name
module _ {K X : Type 0} {R S : K → K → Ordering} (same : ◌≡◌ {A = K → K → Ordering} R S) (total : IsTotalOrder R)
    (exact : IsAntisymmetric R)
    (rows : List (K × X)) (named : T (is_sorted S rows)) (q : K) where
  up : T (is_sorted R rows)
  up = subst (λ (r : K → K → Ordering). T (is_sorted r rows)) (sym same) named

  got : (o : Option X) → find R q rows ≡ o → o ≡ get (from_sorted {R = S} rows) q
  got o is = subst (λ (r : K → K → Ordering). o ≡ get (from_sorted {R = r} rows) q) same
      (sym is ∙ sym (get-from_sorted R rows q up))

  pub get_found : (at : ℕ) (d : K × X) → at < length rows → R (get_or rows at d).0 q ≡ Equal
      → Some (get_or rows at d).1 ≡ get (from_sorted {R = S} rows) q
  get_found at d within ties = got (Some (get_or rows at d).1) (found_at R total exact rows at q d up within ties)

  pub get_in_gap : (gap : ℕ) → (IsNonDecreasingBy (λ (e : K × X). ordering_index (R e.0 q)) rows
      → IsPartitionPoint (λ (e : K × X). R e.0 q ≡ Less) (λ (e : K × X). R e.0 q ≡ Greater) rows gap)
      → None ≡ get (from_sorted {R = S} rows) q
  get_in_gap gap parts = got None
      (not_found_in_gap R total exact rows gap q (parts (searchable R total rows q (keys_rise R rows up))))

-- Rows under keys that are sorted, and of which the first of each key is kept.
use Rattle.std.proofs.Common.{◌≡◌, Bool, true, false, cond, not, ◌&&◌, List, [], ◌∷◌, Option, Some}
use Rattle.std.proofs.Common.{refl, sym, ap, ◌∙◌}
use Rattle.std.proofs.lemmas.List.Kept.{IsStrictlySortedBy-dedup}
use Rattle.std.proofs.lemmas.List.Sorted.{ranks_by}
use Rattle.std.specs.Cmp.{IsStrictWeakOrder, IsTotalOrder, on_total, tied_itself}
use Rattle.std.specs.FinMap.{IsAntisymmetric, find}
use Rattle.std.specs.List.{AllByRecursion, dedup, dedup_from}
use Rattle.std.specs.List.Sorted.{IsSortedBy, IsStableBy, IsStrictlySortedBy}
use Rattle.std.specs.Map.{keys_of}
use Rattle.std.specs.Ordering.{eq_by_cmp, is_lt}
use Rattle.std.specs.declared.cmp.Ordering.{Ordering}
use Rattle.std.specs.declared.cmp.Ordering.TheVariants.{Less, Equal, Greater}
use Rattle.iocm_types.proofs.Found.{same_key}
use Rattle.iocm_types.proofs.Passing.{finds_passing}

less_is : (r : Ordering) → is_lt r ≡ true → r ≡ Less
less_is Less h = refl
less_is Equal h = cc
less_is Greater h = cc

-- a key is not below itself
not_itself : {K : Type 0} (R : K → K → Ordering) → IsTotalOrder R → (k : K)
    → (not (is_lt (R k k)) && not (is_lt (R k k))) ≡ true
not_itself R total k = ap (λ r. not (is_lt r) && not (is_lt r)) (tied_itself total k)

module _ {K X : Type 0} (R : K → K → Ordering) (total : IsTotalOrder R) where
  -- a row is below another if its key is
  abbrev pub is_below : K × X → K × X → Bool
  is_below r s = is_lt (R r.0 s.0)

  pub ranks : IsStrictWeakOrder is_below
  ranks = ranks_by total (λ r. r.0)

  -- two rows have one key
  abbrev pub have_one_key : K × X → K × X → Bool
  have_one_key r s = eq_by_cmp R r.0 s.0

  -- ---- a stable sort

  -- rows that tie stand as they stood, so the same row is the first of its key
  kept_with : IsAntisymmetric R → (v : X) (rows sorted : List (K × X)) → IsStableBy is_below rows sorted → (q : K)
      → find R q sorted ≡ find R q rows
  kept_with exact v rows sorted stable q =
      let test : K → Bool = λ k. not (is_lt (R q k)) && not (is_lt (R k q)) in
      sym (finds_passing R exact test q (not_itself R total q) sorted) ∙ ap (find R q) (stable (q, v))
      ∙ finds_passing R exact test q (not_itself R total q) rows

  pub first_is_kept : IsAntisymmetric R → (rows sorted : List (K × X)) → IsStableBy is_below rows sorted → (q : K)
      → find R q sorted ≡ find R q rows
  first_is_kept exact [] [] stable q = refl
  first_is_kept exact (r ∷ rows) sorted stable q = kept_with exact r.1 (r ∷ rows) sorted stable q
  first_is_kept exact [] (s ∷ sorted) stable q = kept_with exact s.1 [] (s ∷ sorted) stable q

  -- ---- each kept once

  covered : (first second : Bool) (x y : X) (rest : Option X) → second ≡ first
      → cond first (Some x) rest ≡ cond first (Some x) (cond second (Some y) rest)
  covered true second x y rest e = refl
  covered false second x y rest e = sym (ap (λ b. cond b (Some y) rest) e)

  found_from : IsAntisymmetric R → (q : K) (e : K × X) (rows : List (K × X))
      → find R q (dedup_from have_one_key e rows) ≡ find R q (e ∷ rows)
  found_from exact q e [] = refl
  found_from exact q e (r ∷ rows) = by (have_one_key r e) refl (found_from exact q e rows) (found_from exact q r rows)
    where
      by : (b : Bool) → have_one_key r e ≡ b → find R q (dedup_from have_one_key e rows) ≡ find R q (e ∷ rows)
          → find R q (dedup_from have_one_key r rows) ≡ find R q (r ∷ rows)
          → find R q (cond b (dedup_from have_one_key e rows) (e ∷ dedup_from have_one_key r rows))
          ≡ find R q (e ∷ r ∷ rows)
      by true one here next = here
          ∙ covered (eq_by_cmp R q e.0) (eq_by_cmp R q r.0) e.1 r.1 (find R q rows)
          (ap (eq_by_cmp R q) (same_key R exact r.0 e.0 one))
      by false one here next = ap (cond (eq_by_cmp R q e.0) (Some e.1)) next

  -- where of rows in turn with one key the first is kept, the same row is the first of its key
  pub first_is_found : IsAntisymmetric R → (q : K) (rows : List (K × X))
      → find R q (dedup have_one_key rows) ≡ find R q rows
  first_is_found exact q [] = refl
  first_is_found exact q (r ∷ rows) = found_from exact q r rows

  keys_below : (k : K) (rows : List (K × X)) → AllByRecursion (λ r. R k r.0 ≡ Less) rows
      → AllByRecursion (λ key. R k key ≡ Less) (keys_of rows)
  keys_below k [] all = tt
  keys_below k (r ∷ rows) all = (all.0, keys_below k rows all.1)

  keys_rise : (rows : List (K × X)) → IsStrictlySortedBy (λ r s. R r.0 s.0) rows → IsStrictlySortedBy R (keys_of rows)
  unfolding IsStrictlySortedBy
  keys_rise [] rise = tt
  keys_rise (r ∷ rows) rise = (keys_below r.0 rows rise.0, keys_rise rows rise.1)

  -- the keys of sorted rows, each kept once, are in order
  pub once_rise : (rows : List (K × X)) → IsSortedBy is_below rows
      → IsStrictlySortedBy R (keys_of (dedup have_one_key rows))
  once_rise rows up = keys_rise (dedup have_one_key rows)
      (IsStrictlySortedBy-dedup (on_total (λ (r : K × X). r.0) total) (λ r s. refl) rows up)

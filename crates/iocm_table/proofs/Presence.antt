-- The rows of slots in order: they are in order, and a look-up among them is one among the slots.
use Rattle.std.proofs.Common.{◌≡◌, T, Bool, true, false, cond, List, [], ◌∷◌, Option, None, Some, refl, sym, subst, ◌∙◌}
use Rattle.std.proofs.Common.{◌&&◌}
use Rattle.std.specs.Ordering.{is_lt, is_eq, eq_by_cmp}
use Rattle.std.specs.Option.{option_flatten}
use Rattle.std.specs.List.{AllByRecursion}
use Rattle.std.specs.List.Sorted.{IsStrictlySortedBy}
use Rattle.std.specs.Map.{keys_of, lookup}
use Rattle.std.specs.BTreeMap.{is_at}
use Rattle.std.specs.Cmp.{IsTotalOrder}
use Rattle.std.specs.declared.cmp.Ordering.{Ordering}
use Rattle.std.specs.declared.cmp.Ordering.TheVariants.{Less, Equal, Greater}
use Rattle.std.specs.FinMap.Entries.{find, below_all, is_sorted}
use Rattle.std.proofs.lemmas.Map.Keys.{sorted_head, sorted_tail}
use Rattle.iocm_types.proofs.Tests.{both_hold, first_holds, second_holds}
use Rattle.iocm_types.proofs.Orderings.{less_is}
use Rattle.iocm_table.specs.Slots.{listed_first, present}

pub equal_is : (r : Ordering) → is_eq r ≡ true → r ≡ Equal
equal_is Less h = cc
equal_is Equal h = refl
equal_is Greater h = cc

module _ {K X : Type 0} (R : K → K → Ordering) where
  -- a key below all keys of slots is below all of their rows
  below_first : (x key : K) (o : Option X) (es : List (K × X)) → R x key ≡ Less → T (below_all R x es)
      → T (below_all R x (listed_first key o es))
  below_first x key None es less h = h
  below_first x key (Some row) es less h = subst (λ r. T (is_lt r && below_all R x es)) (sym less) h

  below_present : (x : K) (es : List (K × Option X)) → AllByRecursion (λ y. R x y ≡ Less) (keys_of es)
      → T (below_all R x (present es))
  below_present x [] h = tt
  below_present x (e ∷ es) h = below_first x e.0 e.1 (present es) h.0 (below_present x es h.1)

  -- the rows of slots in order are in order
  sorted_first : (key : K) (o : Option X) (es : List (K × X)) → T (below_all R key es) → T (is_sorted R es)
      → T (is_sorted R (listed_first key o es))
  sorted_first key None es below h = h
  sorted_first key (Some row) es below h = both_hold _ _ below h

  pub sorted_present : (es : List (K × Option X)) → IsStrictlySortedBy R (keys_of es) → T (is_sorted R (present es))
  sorted_present [] h = tt
  sorted_present (e ∷ es) h =
      sorted_first e.0 e.1 (present es) (below_present e.0 es (sorted_head R _ _ h))
      (sorted_present es (sorted_tail R _ _ h))

module _ {K X : Type 0} {R : K → K → Ordering} (o : IsTotalOrder R) where
  -- what ties with a key that is below all rows ties with none
  find_none : (q key : K) → R q key ≡ Equal → (es : List (K × X)) → T (below_all R key es) → find R q es ≡ None
  find_none q key tie [] h = refl
  find_none q key tie (e ∷ es) h =
      let less : R q e.0 ≡ Less = o.congr q key e.0 tie ∙ less_is _ (first_holds _ _ h) in
      subst (λ r. cond (is_eq r) (Some e.1) (find R q es) ≡ None) (sym less)
      (find_none q key tie es (second_holds _ _ h))

  find_empty : (q key : K) (b : Bool) → is_eq (R q key) ≡ b → (ps : List (K × X)) (r : Option (Option X))
      → T (below_all R key ps)
      → find R q ps ≡ option_flatten r → find R q ps ≡ option_flatten (cond b (Some None) r)
  find_empty q key true is ps r below h = find_none q key (equal_is _ is) ps below
  find_empty q key false is ps r below h = h

  pub find_full : (b : Bool) (row : X) (p : Option X) (r : Option (Option X)) → p ≡ option_flatten r
      → cond b (Some row) p ≡ option_flatten (cond b (Some (Some row)) r)
  find_full true row p r h = refl
  find_full false row p r h = h

  find_first : (q key : K) (v : Option X) (ps : List (K × X)) (r : Option (Option X)) → T (below_all R key ps)
      → find R q ps ≡ option_flatten r
      → find R q (listed_first key v ps) ≡ option_flatten (cond (is_at (R q) key) (Some v) r)
  find_first q key None ps r below h = find_empty q key (is_eq (R q key)) refl ps r below h
  find_first q key (Some row) ps r below h = find_full (eq_by_cmp R q key) row (find R q ps) r h

  -- a look-up among the rows is one among the slots
  pub find_present : (q : K) (es : List (K × Option X)) → IsStrictlySortedBy R (keys_of es)
      → find R q (present es) ≡ option_flatten (lookup (is_at (R q)) es)
  find_present q [] h = refl
  find_present q (e ∷ es) h = find_first q e.0 e.1 (present es) (lookup (is_at (R q)) es)
      (below_present R e.0 es (sorted_head R _ _ h)) (find_present q es (sorted_tail R _ _ h))

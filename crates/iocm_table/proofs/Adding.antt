-- An empty slot that is added: no row changes.
use Rattle.std.proofs.Common.{◌≡◌, Bool, true, false, cond, List, [], ◌∷◌, Option, None, Some, refl, ap}
use Rattle.std.specs.Ordering.{is_eq, match_ordering}
use Rattle.std.specs.declared.cmp.Ordering.{Ordering}
use Rattle.std.specs.declared.cmp.Ordering.TheVariants.{Less, Equal, Greater}
use Rattle.std.specs.Map.{lookup}
use Rattle.std.specs.BTreeMap.{insert_entry, is_at}
use Rattle.iocm_table.specs.Slots.{present, listed_first}

module _ {K X : Type 0} (R : K → K → Ordering) (key : K) where
  below_tie : (b : Bool) (x : Option X) (r : Option (Option X)) → cond b (Some x) r ≡ None → r ≡ None
  below_tie true x r h = cc
  below_tie false x r h = h

  added_at : (r : Ordering) (e : K × Option X) (es more : List (K × Option X))
      → cond (is_eq r) (Some e.1) (lookup (is_at (R key)) es) ≡ None
      → present more ≡ present es
      → present (match_ordering r ((key, None) ∷ e ∷ es) ((e.0, None) ∷ es) (e ∷ more)) ≡ present (e ∷ es)
  added_at Less e es more none same = refl
  added_at Equal e es more none same = cc
  added_at Greater e es more none same = ap (listed_first e.0 e.1) same

  pub present_added : (es : List (K × Option X)) → lookup (is_at (R key)) es ≡ None
      → present (insert_entry R es key None) ≡ present es
  present_added [] none = refl
  present_added (e ∷ es) none = added_at (R key e.0) e es (insert_entry R es key None) none
      (present_added es (below_tie (is_eq (R key e.0)) e.1 (lookup (is_at (R key)) es) none))

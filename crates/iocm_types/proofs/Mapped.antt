-- A map made of another map's entries, each turned by f into an entry with another key: a new entry
-- there is a new entry here.
use Rattle.std.proofs.Common.{◌≡◌, Bool, true, false, cond, List, [], ◌∷◌, Option, None, Some, refl, sym, ap, ◌∙◌, map}
use Rattle.std.specs.Ordering.{is_eq, eq_by_cmp}
use Rattle.std.specs.declared.cmp.Ordering.{Ordering}
use Rattle.std.specs.declared.cmp.Ordering.TheVariants.{Less, Equal, Greater}
use Rattle.std.specs.Cmp.{Equal-is, IsTotalOrder}
use Rattle.std.specs.FinMap.{FinMap, IsAntisymmetric, find, put, get, insert, entries, from_entries, get-entries}
use Rattle.std.specs.FinMap.{entries-insert, get-insert, get-from_entries, same_map}
use Rattle.std.specs.FinMap.Entries.{by_order}

new_key : {X : Type 0} (b : Bool) (z : X) (rest : Option X) → cond b (Some z) rest ≡ None → b ≡ false
new_key true z rest none = cc
new_key false z rest none = refl

new_later : {X : Type 0} (b : Bool) (z : X) (rest : Option X) → cond b (Some z) rest ≡ None → rest ≡ None
new_later true z rest none = cc
new_later false z rest none = none

exchanged : {J Y : Type 0} {S : J → J → Ordering} → IsTotalOrder S
    → (q j i : J) (y z : Y) (rest : Option Y) (a b : Bool)
    → eq_by_cmp S q i ≡ a → eq_by_cmp S q j ≡ b → eq_by_cmp S j i ≡ false
    → cond a (Some z) (cond b (Some y) rest) ≡ cond b (Some y) (cond a (Some z) rest)
exchanged o q j i y z rest true true p r apart =
    let no : true ≡ false = sym p ∙ ap is_eq (o.congr q j i ((Equal-is _).0 r)) ∙ apart in cc
exchanged o q j i y z rest true false p r apart = refl
exchanged o q j i y z rest false b p r apart = refl

module _ {K J X Y : Type 0} (R : K → K → Ordering) {S : J → J → Ordering} (o : IsTotalOrder S) (f : K × X → J × Y) where
  put_by : (k : K) (x : X) (e : K × X) (es : List (K × X)) (r : Ordering) → is_eq r ≡ false
      → find S (f (k, x)).0 (map f (e ∷ es)) ≡ None → (q : J)
      → find S q (map f (put R k x es)) ≡ cond (eq_by_cmp S q (f (k, x)).0) (Some (f (k, x)).1) (find S q (map f es))
      → find S q (map f (by_order r ((k, x) ∷ e ∷ es) ((e.0, x) ∷ es) (e ∷ put R k x es)))
      ≡ cond (eq_by_cmp S q (f (k, x)).0) (Some (f (k, x)).1) (find S q (map f (e ∷ es)))
  put_by k x e es Less new free q more = refl
  put_by k x e es Equal new free q more = cc
  put_by k x e es Greater new free q more =
      ap (cond (eq_by_cmp S q (f e).0) (Some (f e).1)) more
      ∙ exchanged o q (f (k, x)).0 (f e).0 (f (k, x)).1 (f e).1 (find S q (map f es)) _ _ refl refl (new_key _ _ _ free)

  found_after_put : (k : K) (x : X) (es : List (K × X)) → find R k es ≡ None → find S (f (k, x)).0 (map f es) ≡ None
      → (q : J)
      → find S q (map f (put R k x es)) ≡ cond (eq_by_cmp S q (f (k, x)).0) (Some (f (k, x)).1) (find S q (map f es))
  found_after_put k x [] new free q = refl
  found_after_put k x (e ∷ es) new free q =
      put_by k x e es (R k e.0) (new_key _ _ _ new) free q
      (found_after_put k x es (new_later _ _ _ new) (new_later _ _ _ free) q)

  pub mapped-insert : IsTotalOrder R → IsAntisymmetric S → (m : FinMap R X) (k : K) (x : X) → get m k ≡ None
      → get (from_entries {R = S} (map f (entries m))) (f (k, x)).0 ≡ None
      → from_entries {R = S} (map f (entries (insert m k x)))
      ≡ insert (from_entries (map f (entries m))) (f (k, x)).0 (f (k, x)).1
  mapped-insert total exact m k x new free = same_map o exact _ _ (λ q.
      get-from_entries o (map f (entries (insert m k x))) q
      ∙ ap (λ es. find S q (map f es)) (entries-insert total m k x)
      ∙ found_after_put k x (entries m) (sym (get-entries m k) ∙ new)
      (sym (get-from_entries o (map f (entries m)) (f (k, x)).0) ∙ free) q
      ∙ sym (get-insert o (from_entries (map f (entries m))) (f (k, x)).0 (f (k, x)).1 q
      ∙ ap (cond (eq_by_cmp S q (f (k, x)).0) (Some (f (k, x)).1)) (get-from_entries o (map f (entries m)) q)))

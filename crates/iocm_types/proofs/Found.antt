-- What is found in the entries of a map, what a test says of it, and what is found after each entry
-- was turned into another.
use Rattle.std.proofs.Common.{◌≡◌, Bool, true, false, cond, ◌||◌, List, [], ◌∷◌, map, Option, Some, None, is_some, T}
use Rattle.std.proofs.Common.{refl, sym, ap, subst, ◌∙◌}
use Rattle.std.proofs.lemmas.Bool.{or_parts}
use Rattle.std.specs.List.{list_any}
use Rattle.std.specs.Ordering.{is_eq, eq_by_cmp}
use Rattle.std.specs.declared.cmp.Ordering.{Ordering}
use Rattle.std.specs.Cmp.{Equal-is, IsTotalOrder, tied_itself}
use Rattle.std.specs.FinMap.{IsAntisymmetric, find, is_sorted}
use Rattle.std.specs.FinMap.Entries.{below_all}
use Rattle.iocm_types.proofs.Tests.{first_holds, second_holds}
use Rattle.iocm_types.proofs.Entries.{not_found}

-- ---- keys that tie

-- keys that tie are equal
pub same_key : {K : Type 0} (R : K → K → Ordering) → IsAntisymmetric R → (x y : K) → eq_by_cmp R x y ≡ true → x ≡ y
same_key R exact x y e = exact x y ((Equal-is (R x y)).0 e)

-- a key ties with itself
pub ties_itself : {K : Type 0} (R : K → K → Ordering) → IsTotalOrder R → (x : K) → eq_by_cmp R x x ≡ true
ties_itself R total x = ap is_eq (tied_itself total x)

-- ---- entries in order

module _ {K X : Type 0} (R : K → K → Ordering) (total : IsTotalOrder R) (exact : IsAntisymmetric R) where
  -- `found_later`, by whether the key ties with that of the entry in front
  found_later_by : (q : K) (e : K × X) (es : List (K × X)) (v : X) (b : Bool) → eq_by_cmp R q e.0 ≡ b
      → T (below_all R e.0 es)
      → find R q es ≡ Some v → cond b (Some e.1) (find R q es) ≡ Some v
  found_later_by q e es v true t h is = let none : find R q es ≡ None =
      ap (λ k. find R k es) (same_key R exact q e.0 t) ∙ not_found R e.0 es h in cc
  found_later_by q e es v false t h is = is

  -- what is found behind an entry is found with it in front, where the entry is below all
  pub found_later : (q : K) (e : K × X) (es : List (K × X)) (v : X) → T (below_all R e.0 es) → find R q es ≡ Some v
      → find R q (e ∷ es) ≡ Some v
  found_later q e es v h is = found_later_by q e es v (eq_by_cmp R q e.0) refl h is

  -- the entry in front is found
  pub found_first : (e : K × X) (es : List (K × X)) → find R e.0 (e ∷ es) ≡ Some e.1
  found_first e es = ap (λ b. cond b (Some e.1) (find R e.0 es)) (ties_itself R total e.0)

  -- a test that fails at all that is found fails at all entries
  pub none_passes : (test : K × X → Bool) (es : List (K × X)) → T (is_sorted R es)
      → ((q : K) (v : X) → find R q es ≡ Some v → test (q, v) ≡ false) → list_any test es ≡ false
  none_passes test [] up none = refl
  none_passes test (e ∷ es) up none =
      let first : test e ≡ false = none e.0 e.1 (found_first e es) in
      rw first (none_passes test es (second_holds _ _ up)
      (λ q v is. none q v (found_later q e es v (first_holds _ _ up) is)))

  -- the step of `found_fails`, by whether the key ties with that of the entry in front
  found_fails_by : (test : K × X → Bool) (e : K × X) (rest : Bool) (found : Option X) (q : K) (v : X) (b : Bool)
      → eq_by_cmp R q e.0 ≡ b
      → (test e || rest) ≡ false → (rest ≡ false → found ≡ Some v → test (q, v) ≡ false)
      → cond b (Some e.1) found ≡ Some v → test (q, v) ≡ false
  found_fails_by test e rest found q v true t none more is =
      let key : q ≡ e.0 = same_key R exact q e.0 t in
      let value : v ≡ e.1 = cc in
      ap test (λ i. (key i, value i)) ∙ (or_parts _ _ none).0
  found_fails_by test e rest found q v false t none more is = more (or_parts _ _ none).1 is

  -- a test that fails at all entries fails at what is found
  pub found_fails : (test : K × X → Bool) (es : List (K × X)) (q : K) (v : X) → list_any test es ≡ false
      → find R q es ≡ Some v → test (q, v) ≡ false
  found_fails test [] q v none is = cc
  found_fails test (e ∷ es) q v none is =
      found_fails_by test e (list_any test es) (find R q es) q v (eq_by_cmp R q e.0) refl none (found_fails test es q v)
      is

-- an entry that passes a test, as it is found
pub record IsPassing {K X : Type 0} (R : K → K → Ordering) (test : K × X → Bool) (es : List (K × X)) : Type 0 where
  pub key : K
  pub value : X
  pub found : find R key es ≡ Some value
  pub passes : test (key, value) ≡ true

module _ {K X : Type 0} (R : K → K → Ordering) (total : IsTotalOrder R) (exact : IsAntisymmetric R)
    (test : K × X → Bool) where
  pub passing : (es : List (K × X)) → T (is_sorted R es) → list_any test es ≡ true → IsPassing R test es
  passing [] up h = cc
  passing (e ∷ es) up h = by (test e) refl h (passing es (second_holds _ _ up))
    where
      by : (b : Bool) → test e ≡ b → (b || list_any test es) ≡ true → (list_any test es ≡ true → IsPassing R test es)
          → IsPassing R test (e ∷ es)
      by true is h more = record { key = e.0; value = e.1; found = found_first R total exact e es; passes = is }
      by false is h more = let rest = more h in record {
        key = rest.key;
        value = rest.value;
        found = found_later R total exact rest.key e es rest.value (first_holds _ _ up) rest.found;
        passes = rest.passes;
      }

-- ---- entries that are turned into others, and back

module _ {K X L Y : Type 0} (R : K → K → Ordering) (total : IsTotalOrder R) (exact : IsAntisymmetric R)
    (S : L → L → Ordering) (others_total : IsTotalOrder S) (others_exact : IsAntisymmetric S)
    (turn : K × X → L × Y) (back : L × Y → K × X) (goes_back : (e : K × X) → back (turn e) ≡ e) where
  -- the step of `found_back`, by whether the key ties with that of the first turned entry
  found_back_by : (e : K × X) (es : List (K × X)) (q : L) (v : Y) (b : Bool) → eq_by_cmp S q (turn e).0 ≡ b
      → T (below_all R e.0 es)
      → (find S q (map turn es) ≡ Some v → find R (back (q, v)).0 es ≡ Some (back (q, v)).1)
      → cond b (Some (turn e).1) (find S q (map turn es)) ≡ Some v
      → find R (back (q, v)).0 (e ∷ es) ≡ Some (back (q, v)).1
  found_back_by e es q v true t below more is =
      let key : q ≡ (turn e).0 = same_key S others_exact q (turn e).0 t in
      let value : v ≡ (turn e).1 = cc in
      let same : back (q, v) ≡ e = ap back (λ i. (key i, value i)) ∙ goes_back e in
      subst (λ (z : K × X). find R z.0 (e ∷ es) ≡ Some z.1) (sym same) (found_first R total exact e es)
  found_back_by e es q v false t below more is = found_later R total exact _ e es _ below (more is)

  -- what is found among the turned ones was there
  pub found_back : (es : List (K × X)) → T (is_sorted R es) → (q : L) (v : Y) → find S q (map turn es) ≡ Some v
      → find R (back (q, v)).0 es ≡ Some (back (q, v)).1
  found_back [] up q v is = cc
  found_back (e ∷ es) up q v is =
      found_back_by e es q v (eq_by_cmp S q (turn e).0) refl (first_holds _ _ up)
      (found_back es (second_holds _ _ up) q v) is

  -- what is there is there behind any entry
  some_behind : (b : Bool) (y : Y) (rest : Option Y) → is_some rest ≡ true → is_some (cond b (Some y) rest) ≡ true
  some_behind true y rest is = refl
  some_behind false y rest is = is

  -- the step of `found_on`, by whether the key ties with that of the entry in front
  found_on_by : (e : K × X) (es : List (K × X)) (k : K) (x : X) (b : Bool) → eq_by_cmp R k e.0 ≡ b
      → (find R k es ≡ Some x → is_some (find S (turn (k, x)).0 (map turn es)) ≡ true)
      → cond b (Some e.1) (find R k es) ≡ Some x → is_some (find S (turn (k, x)).0 (map turn (e ∷ es))) ≡ true
  found_on_by e es k x true t more is =
      let key : k ≡ e.0 = same_key R exact k e.0 t in
      let value : x ≡ e.1 = cc in
      let same : (k, x) ≡ e = λ i. (key i, value i) in
      ap (λ (z : K × X). is_some (find S (turn z).0 (map turn (e ∷ es)))) same
      ∙ ap (λ b. is_some (cond b (Some (turn e).1) (find S (turn e).0 (map turn es))))
      (ties_itself S others_total (turn e).0)
  found_on_by e es k x false t more is =
      some_behind (eq_by_cmp S (turn (k, x)).0 (turn e).0) (turn e).1 (find S (turn (k, x)).0 (map turn es)) (more is)

  -- what was there is found at its turned key
  pub found_on : (es : List (K × X)) (k : K) (x : X) → find R k es ≡ Some x
      → is_some (find S (turn (k, x)).0 (map turn es)) ≡ true
  found_on [] k x is = cc
  found_on (e ∷ es) k x is = found_on_by e es k x (eq_by_cmp R k e.0) refl (found_on es k x) is

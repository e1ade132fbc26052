-- The first that isn't quiet, of subchannels in order, is the least.
use Rattle.std.proofs.Common.{◌≡◌, Bool, true, false, cond, not, ◌||◌, List, [], ◌∷◌, ◌++◌, map, Option, Some, T, refl}
use Rattle.std.proofs.Common.{sym, ap, ◌∙◌}
use Rattle.std.specs.List.{filter, list_any, find}
use Rattle.std.specs.Option.{option_eq}
use Rattle.std.specs.Ordering.{eq_by_cmp, ordering_reverse}
use Rattle.std.specs.declared.cmp.Ordering.{Ordering}
use Rattle.std.specs.declared.cmp.Ordering.TheVariants.{Less, Equal, Greater}
use Rattle.std.specs.Cmp.{IsTotalOrder, tied_itself}
use Rattle.std.specs.FinMap.{IsAntisymmetric, is_sorted, get, entries, entries_sorted, from_entries}
use Rattle.std.specs.FinMap.Entries.{below_all}
use Rattle.std.proofs.lemmas.Bool.{or_right}
use Rattle.iocm_types.specs.SubId.{sub_id_cmp}
use Rattle.iocm_types.specs.KeyOrder.{sub_ids_total, sub_ids_exact}
use Rattle.iocm_types.proofs.Found.{same_key, ties_itself}
use Rattle.iocm_types.proofs.Orderings.{less_is}
use Rattle.iocm_types.proofs.Tests.{first_holds, second_holds}
use Rattle.iocm_model.specs.Operation.State.{views_in, seen_in}
use Rattle.iocm_model.specs.Change.Edit.{same_view, state_after, altered_by}
use Rattle.iocm_model.specs.Change.Refusal.{is_not_quiet}
use Rattle.iocm_model.specs.Laws.Edits.{NamesTheLeast, NamesNoneWhereQuiet}
use Rattle.iocm_model.proofs.Maps.Overwriting.{find_none, none_found}

module _ {K : Type 0} (R : K → K → Ordering) (total : IsTotalOrder R) (exact : IsAntisymmetric R) where
  found_by : (test : K → Bool) (k x : K) (b : Bool) (rest : Option K) (among : Bool) → test k ≡ b
      → (rest ≡ Some x → (among ≡ true) × (test x ≡ true))
      → cond b (Some k) rest ≡ Some x → ((eq_by_cmp R x k || among) ≡ true) × (test x ≡ true)
  found_by test k x true rest among e more h =
      let same : k ≡ x = cc in (
        ap (λ z. eq_by_cmp R z k || among) (sym same) ∙ ap (λ b. b || among) (ties_itself R total k),
        ap test (sym same)
            ∙ e,
      )
  found_by test k x false rest among e more h = let both = more h in (or_right (eq_by_cmp R x k) among both.0, both.1)

  -- what is found is there and passes
  pub found_passes : (test : K → Bool) (xs : List K) (x : K) → find test xs ≡ Some x
      → (list_any (eq_by_cmp R x) xs ≡ true) × (test x ≡ true)
  found_passes test [] x h = cc
  found_passes test (k ∷ xs) x h =
      found_by test k x (test k) (find test xs) (list_any (eq_by_cmp R x) xs) refl (found_passes test xs x) h

  less_only : (x y : K) → R x y ≡ Less → R y x ≡ Less → ⊥
  less_only x y h g = no (sym (total.antisymm x y ∙ ap ordering_reverse g) ∙ h)
    where
      no : Greater ≡ Less → ⊥
      no e = cc

module _ {K X : Type 0} (R : K → K → Ordering) (total : IsTotalOrder R) (exact : IsAntisymmetric R)
    (pass test : K → Bool) where
  -- a key of entries that are all above another is above it
  above : (k : K) (es : List (K × X)) → T (below_all R k es) → (y : K)
      → list_any (eq_by_cmp R y) (filter pass (map (λ e. e.0) es)) ≡ true → R k y ≡ Less
  above k [] below y h = cc
  above k (e ∷ es) below y h = by (pass e.0) (eq_by_cmp R y e.0) refl (above k es (second_holds _ _ below) y) h
    where
      by : (p b : Bool) → eq_by_cmp R y e.0 ≡ b
          → (list_any (eq_by_cmp R y) (filter pass (map (λ f. f.0) es)) ≡ true → R k y ≡ Less)
          → list_any (eq_by_cmp R y) (cond p (e.0 ∷ filter pass (map (λ f. f.0) es)) (filter pass (map (λ f. f.0) es)))
          ≡ true → R k y ≡ Less
      by false b t more h = more h
      by true true t more h = ap (R k) (same_key R exact y e.0 t) ∙ less_is (R k e.0) (first_holds _ _ below)
      by true false t more h =
          more (sym (ap (λ c. c || list_any (eq_by_cmp R y) (filter pass (map (λ f. f.0) es))) t) ∙ h)

  least_by : (k x y : K) (es : List (K × X)) (p c b : Bool) → test k ≡ c → eq_by_cmp R y k ≡ b → T (below_all R k es)
      → (find test (filter pass (map (λ e. e.0) es)) ≡ Some x
      → list_any (eq_by_cmp R y) (filter pass (map (λ e. e.0) es)) ≡ true → test y ≡ false)
      → find test (cond p (k ∷ filter pass (map (λ e. e.0) es)) (filter pass (map (λ e. e.0) es))) ≡ Some x
      → list_any (eq_by_cmp R y) (cond p (k ∷ filter pass (map (λ e. e.0) es)) (filter pass (map (λ e. e.0) es))) ≡ true
      → R y x ≡ Less → test y ≡ false
  least_by k x y es false c b e t below more found among less = more found among
  least_by k x y es true false true e t below more found among less = ap test (same_key R exact y k t) ∙ e
  least_by k x y es true false false e t below more found among less =
      more (sym (ap (λ d. cond d (Some k) (find test (filter pass (map (λ f. f.0) es)))) e) ∙ found)
      (sym (ap (λ d. d || list_any (eq_by_cmp R y) (filter pass (map (λ f. f.0) es))) t) ∙ among)
  least_by k x y es true true true e t below more found among less =
      let here : k ≡ x = inner
      (sym (ap (λ d. cond d (Some k) (find test (filter pass (map (λ f. f.0) es)))) e) ∙ found) in
      absurd (no (sym (tied_itself total x) ∙ ap (λ z. R z x) (sym (same_key R exact y k t ∙ here)) ∙ less))
    where
      inner : Some k ≡ Some x → k ≡ x
      inner h = cc

      no : Equal ≡ Less → ⊥
      no e = cc
  least_by k x y es true true false e t below more found among less =
      let here : k ≡ x = inner
      (sym (ap (λ d. cond d (Some k) (find test (filter pass (map (λ f. f.0) es)))) e) ∙ found) in
      absurd (less_only R total exact y x less (ap (λ z. R z y) (sym here)
      ∙ above k es below y (sym (ap (λ d. d || list_any (eq_by_cmp R y) (filter pass (map (λ f. f.0) es))) t) ∙ among)))
    where
      inner : Some k ≡ Some x → k ≡ x
      inner h = cc

  -- of keys in order that pass, one that is less than the first that passes a test fails it
  pub least_found : (es : List (K × X)) → T (is_sorted R es) → (x y : K)
      → find test (filter pass (map (λ e. e.0) es)) ≡ Some x
      → list_any (eq_by_cmp R y) (filter pass (map (λ e. e.0) es)) ≡ true → R y x ≡ Less → test y ≡ false
  least_found [] up x y found among less = cc
  least_found (e ∷ es) up x y found among less =
      least_by e.0 x y es (pass e.0) (test e.0) (eq_by_cmp R y e.0) refl refl (first_holds _ _ up)
      (λ f a. least_found es (second_holds _ _ up) x y f a less) found among less

pub names_the_least : NamesTheLeast
names_the_least e s x h =
    let all = from_entries {R = sub_id_cmp} (entries (views_in s) ++ entries (views_in (state_after e s))) in
    let found = found_passes sub_id_cmp sub_ids_total sub_ids_exact (λ y. is_not_quiet (get s.lives y)) (altered_by e s)
    x h in
    record {
      altered = found.0;
      busy_or_pending = found.1;
      least = λ y among less. least_found sub_id_cmp sub_ids_total sub_ids_exact
          (λ z. not (option_eq same_view (seen_in s z) (seen_in (state_after e s) z)))
          (λ z. is_not_quiet (get s.lives z))
          (entries all) (entries_sorted all) x y h among less;
    }

pub names_none_where_quiet : NamesNoneWhereQuiet
names_none_where_quiet e s = (
  (λ none x among. none_found sub_id_cmp sub_ids_total sub_ids_exact (λ y. is_not_quiet (get s.lives y))
      (altered_by e s) none x among),
  (λ quiet. find_none sub_id_cmp sub_ids_total sub_ids_exact (λ y. is_not_quiet (get s.lives y)) (altered_by e s)
      quiet),
)

-- A walk over rows in the order of keys that stops at the first row which is past all that is looked
-- for.
use Rattle.std.proofs.Common.{◌≡◌, List, [], ◌∷◌, ◌++◌, T, subst, ap, ◌∙◌}
use Rattle.std.specs.List.{AllByRecursion}
use Rattle.std.specs.Ordering.{is_lt}
use Rattle.std.specs.declared.cmp.Ordering.{Ordering}
use Rattle.std.specs.declared.cmp.Ordering.TheVariants.{Less}
use Rattle.std.specs.FinMap.{is_sorted}
use Rattle.std.specs.FinMap.Entries.{below_all}
use Rattle.iocm_types.proofs.Orderings.{less_is}
use Rattle.iocm_types.proofs.Tests.{first_holds, second_holds}

-- what some rows give stands together: from a row that is past it on they give nothing
abbrev pub StandTogether : {A B : Type 0} → (A → Type 0) → (List A → List B) → List A → Type 0
StandTogether IsPast gives [] = Unit {0}
StandTogether IsPast gives (x ∷ xs) = (IsPast x → gives (x ∷ xs) ≡ []) × StandTogether IsPast gives xs

module _ {K X B : Type 0} (R : K → K → Ordering) (gives : List (K × X) → List B)
    (none : gives [] ≡ []) (more : (e : K × X) (es : List (K × X)) → gives (e ∷ es) ≡ gives (e ∷ []) ++ gives es)
    (Own IsPast : K × X → Type 0) (nothing : (e : K × X) → Own e → IsPast e → gives (e ∷ []) ≡ [])
    (rises : (d e : K × X) → Own d → Own e → IsPast d → R d.0 e.0 ≡ Less → IsPast e) where
  none_after : (d : K × X) → Own d → IsPast d → (es : List (K × X)) → AllByRecursion Own es → T (below_all R d.0 es)
      → gives es ≡ []
  none_after d own past [] owns below = none
  none_after d own past (e ∷ es) owns below =
      let here = nothing e owns.0
      (rises d e own owns.0 past (less_is (R d.0 e.0) (first_holds (is_lt (R d.0 e.0)) (below_all R d.0 es) below)))
      in
      let rest = none_after d own past es owns.1 (second_holds (is_lt (R d.0 e.0)) (below_all R d.0 es) below) in
      more e es ∙ (λ i. here i ++ rest i)

  -- rows in the order of keys
  pub together : (es : List (K × X)) → T (is_sorted R es) → AllByRecursion Own es → StandTogether IsPast gives es
  together [] up own = tt
  together (e ∷ es) up own = (
    λ past. more e es ∙ (λ i. nothing e own.0 past i ++ none_after e own.0 past es own.1 (first_holds _ _ up) i),
    together es (second_holds _ _ up) own.1,
  )

-- where the walk is past it, nothing of it is left
pub none_left : {A B : Type 0} (IsPast : A → Type 0) (gives : List A → List B) (x : A) (xs rest : List A)
    → rest ≡ x ∷ xs
    → StandTogether IsPast gives rest → IsPast x → gives rest ≡ []
none_left IsPast gives x xs rest is stand past = ap gives is ∙ (subst (StandTogether IsPast gives) is stand).0 past

-- and before that what is left stands together
pub still_together : {A B : Type 0} (IsPast : A → Type 0) (gives : List A → List B) (x : A) (xs rest : List A)
    → rest ≡ x ∷ xs
    → StandTogether IsPast gives rest → StandTogether IsPast gives xs
still_together IsPast gives x xs rest is stand = (subst (StandTogether IsPast gives) is stand).1

-- A walk over users that looks for one that passes a test.
use Rattle.std.proofs.Common.{◌≡◌, Bool, false, ◌||◌, Option, Some, None, List, sym, ap, ◌∙◌}
use Rattle.std.proofs.lemmas.Map.Iter.{rest_more, rest_all}
use Rattle.std.specs.List.{list_any}
use Rattle.std.specs.Map.Iter.{TakesFirst}
use Rattle.iocm_types.specs.declared.key.Key.{Key}

module _ (test : Key → Bool) (s t : List Key) (r : Option Key) where
  -- one that doesn't pass leaves the answer to the rest
  pub any_more : (k : Key) → r ≡ Some k → TakesFirst (λ (q : Key). q) s r t → test k ≡ false
      → list_any test t ≡ list_any test s
  any_more k is steps fails =
      sym (ap (list_any test) (rest_more (λ (q : Key). q) s t r k is steps) ∙ ap (λ b. b || list_any test t) fails)

  -- behind the last one none has passed
  pub any_none : r ≡ None → TakesFirst (λ (q : Key). q) s r t → list_any test s ≡ false
  any_none is steps = ap (list_any test) (rest_all (λ (q : Key). q) s t r is steps)

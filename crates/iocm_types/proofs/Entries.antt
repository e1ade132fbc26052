-- Entries, each a key and its value: what is found in them, and the values alone.
use Rattle.std.proofs.Common.{◌≡◌, List, [], ◌∷◌, map, None, T, refl, ap}
use Rattle.std.specs.declared.cmp.Ordering.{Ordering}
use Rattle.std.specs.declared.cmp.Ordering.TheVariants.{Less}
use Rattle.std.specs.FinMap.{find}
use Rattle.std.specs.FinMap.Entries.{below_all}
use Rattle.iocm_types.proofs.Orderings.{less_is}
use Rattle.iocm_types.proofs.Tests.{first_holds, second_holds}
use Rattle.std.specs.Ordering.{is_lt}

-- a key below all is below those behind the first
pub below_rest : {K X : Type 0} (R : K → K → Ordering) (q : K) (e : K × X) (es : List (K × X))
    → T (below_all R q (e ∷ es)) → T (below_all R q es)
below_rest R q e es h = second_holds (is_lt (R q e.0)) (below_all R q es) h

-- a key below all others is not found
pub not_found : {K X : Type 0} (R : K → K → Ordering) (q : K) (es : List (K × X)) → T (below_all R q es)
    → find R q es ≡ None
not_found R q [] h = refl
not_found R q (e ∷ es) h =
    let less : R q e.0 ≡ Less = less_is _ (first_holds _ _ h) in
    rw less (not_found R q es (second_holds _ _ h))

-- the values that stand under their keys
pub values_keyed : {K X : Type 0} (key : X → K) (xs : List X) → map (λ (e : K × X). e.1) (map (λ x. (key x, x)) xs) ≡ xs
values_keyed key [] = refl
values_keyed key (x ∷ xs) = ap (λ ys. x ∷ ys) (values_keyed key xs)

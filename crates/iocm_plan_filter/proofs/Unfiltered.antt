-- Without filters all objects are left.
use Rattle.std.proofs.Common.{◌≡◌, ◌&&◌, ◌||◌, not, Bool, true, false, cond, List, [], ◌∷◌, filter, refl, ap, ◌∙◌}
use Rattle.iocm_types.specs.declared.key.Key.{Key}
use Rattle.iocm_model.specs.Machine.Configuration.{Configuration}
use Rattle.iocm_filter.specs.Wanted.{Wanted, asks, asks_nothing}
use Rattle.iocm_objects.specs.declared.object.Object.{Object}
use Rattle.iocm_plan_filter.specs.Laws.{WithoutFiltersAllIsLeft}
use Rattle.iocm_plan_filter.specs.Left.{is_asked}

by_parts : (a b d e f : Bool) → (not a && not b && not d && not e && not f) ≡ true → (x y z u : Bool)
    → ((not a || x) && (not b || y) && (not d || z) && (not e || u)) ≡ true
by_parts false false false false false h x y z u = refl
by_parts true b d e f h x y z u = cc
by_parts false true d e f h x y z u = cc
by_parts false false true e f h x y z u = cc
by_parts false false false true f h x y z u = cc
by_parts false false false false true h x y z u = cc

each_is_asked : (w : Wanted) → asks_nothing w ≡ true → (c d : Configuration) (k : Key) → is_asked w c d k ≡ true
unfolding is_asked
each_is_asked w none c d k =
    by_parts (asks w.images) (asks w.devices) (asks w.units) (asks w.paths) (asks w.online) none _ _ _ _

-- where each item passes a test, all are left
all_pass : {A : Type 0} (p : A → Bool) → ((x : A) → p x ≡ true) → (xs : List A) → filter p xs ≡ xs
all_pass p passes [] = refl
all_pass p passes (x ∷ xs) = ap (λ b. cond b (x ∷ filter p xs) (filter p xs)) (passes x)
    ∙ ap (λ ys. x ∷ ys) (all_pass p passes xs)

pub without_filters : WithoutFiltersAllIsLeft
without_filters w none c d os =
    all_pass (λ (o : Object). is_asked w c d o.key) (λ o. each_is_asked w none c d o.key) os

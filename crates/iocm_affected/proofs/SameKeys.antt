-- What the same keys lead to is the same.
use Rattle.std.proofs.Common.{◌≡◌, Bool, true, ◌||◌, List, ◌++◌, sym, ap, ◌∙◌}
use Rattle.std.specs.List.{list_any, flat_map}
use Rattle.std.specs.Ordering.{eq_by_cmp}
use Rattle.std.proofs.lemmas.List.Folds.{list_any-append}
use Rattle.iocm_types.specs.declared.place.Place.{Place}
use Rattle.iocm_types.specs.declared.key.Key.{Key}
use Rattle.iocm_types.specs.Place.{place_cmp}
use Rattle.iocm_lookup.proofs.Members.{same_tests, key_found, key_there}
use Rattle.iocm_affected.specs.Listing.{AreSamePlaces, AreSameKeys}
use Rattle.iocm_affected.proofs.Chains.{any_of_parts}

same_test : (test : Key → Bool) (xs ys : List Key) → AreSameKeys xs ys → list_any test xs ≡ true
    → list_any test ys ≡ true
same_test test xs ys same any = let found = key_found test xs any in
    key_there test ys found.key (sym (same found.key) ∙ found.among) found.passes

-- the same keys lead to the same places
pub same_parts : (part : Key → List Place) (xs ys : List Key) → AreSameKeys xs ys
    → AreSamePlaces (flat_map part xs) (flat_map part ys)
same_parts part xs ys same p = let test : Key → Bool = λ k. list_any (eq_by_cmp place_cmp p) (part k) in
    any_of_parts (eq_by_cmp place_cmp p) part xs
    ∙ same_tests _ _ (same_test test xs ys same) (same_test test ys xs (λ k. sym (same k)))
    ∙ sym (any_of_parts (eq_by_cmp place_cmp p) part ys)

-- behind the same places
pub same_behind : (front xs ys : List Place) → AreSamePlaces xs ys → AreSamePlaces (front ++ xs) (front ++ ys)
same_behind front xs ys same p =
    list_any-append (eq_by_cmp place_cmp p) front xs ∙ ap (λ b. list_any (eq_by_cmp place_cmp p) front || b) (same p)
    ∙ sym (list_any-append (eq_by_cmp place_cmp p) front ys)

-- equal lists have the same places
pub same_lists : (xs ys : List Place) → xs ≡ ys → AreSamePlaces xs ys
same_lists xs ys is p = ap (list_any (eq_by_cmp place_cmp p)) is

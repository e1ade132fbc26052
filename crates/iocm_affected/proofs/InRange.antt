-- Only places in the six channel subsystems and the four sets are reached.
use Rattle.std.proofs.Common.{◌≡◌, ℕ, ◌<◌, Bool, true, false, ◌||◌, nat_eq, nat_lt, eqb-true, List, [], ◌∷◌, map, refl}
use Rattle.std.proofs.Common.{sym, ap, subst, ◌∙◌, arith}
use Rattle.std.proofs.lemmas.Bool.{false≢true, ltb-true, lt-ltb}
use Rattle.std.specs.List.{AllByRecursion, flat_map, list_any}
use Rattle.std.specs.Ordering.{eq_by_cmp}
use Rattle.iocm_types.specs.declared.place.Place.{Place}
use Rattle.iocm_types.specs.KeyOrder.{places_exact}
use Rattle.iocm_types.specs.Place.{place_cmp}
use Rattle.iocm_types.proofs.Found.{same_key}
use Rattle.iocm_model.specs.Machine.Configuration.{Configuration}
use Rattle.iocm_model.specs.Machine.Numbering.{subsystems, sets, reached_devices, is_reached_at}
use Rattle.iocm_affected.proofs.Agreement.{IsIn}
use Rattle.iocm_affected.proofs.Chains.{any_of_parts, any_number}

-- a number in a list of small ones is small
below : (n y : ℕ) (xs : List ℕ) → AllByRecursion (λ x. x < n) xs → IsIn y xs → y < n
below n y [] all h = cc
below n y (x ∷ xs) all h = by (nat_eq y x) refl h (below n y xs all.1)
  where
    by : (b : Bool) → nat_eq y x ≡ b → (b || list_any (nat_eq y) xs) ≡ true → (IsIn y xs → y < n) → y < n
    by true is k more = subst (λ z. z < n) (sym (eqb-true y x is)) all.0
    by false is k more = more k

abbrev at : ℕ → ℕ → ℕ → Place
at css set device = record { css = css; set = set; device = device }

-- a place of a channel subsystem and a set
of_set : (p : Place) (css set : ℕ) (ds : List ℕ) → list_any (eq_by_cmp place_cmp p) (map (at css set) ds) ≡ true
    → (p.css ≡ css) × (p.set ≡ set)
of_set p css set [] h = cc
of_set p css set (d ∷ ds) h = by (eq_by_cmp place_cmp p (at css set d)) refl h (of_set p css set ds)
  where
    by : (b : Bool) → eq_by_cmp place_cmp p (at css set d) ≡ b
        → (b || list_any (eq_by_cmp place_cmp p) (map (at css set) ds)) ≡ true
        → (list_any (eq_by_cmp place_cmp p) (map (at css set) ds) ≡ true → (p.css ≡ css) × (p.set ≡ set))
        → (p.css ≡ css) × (p.set ≡ set)
    by true is k more = let same = same_key place_cmp places_exact p (at css set d) is in
        (ap (λ (q : Place). q.css) same, ap (λ (q : Place). q.set) same)
    by false is k more = more k

module _ (c : Configuration) (p : Place) where
  abbrev places_of_set : ℕ → ℕ → List Place
  places_of_set css set = map (at css set) (reached_devices c css set)

  reached_in : is_reached_at c p ≡ true → (p.css < 6) × (p.set < 4)
  reached_in h =
      any_number (λ css. list_any (eq_by_cmp place_cmp p) (flat_map (places_of_set css) sets)) subsystems
      (sym (any_of_parts (eq_by_cmp place_cmp p) (λ css. flat_map (places_of_set css) sets) subsystems) ∙ h)
      (λ css one there.
      any_number (λ set. list_any (eq_by_cmp place_cmp p) (places_of_set css set)) sets
      (sym (any_of_parts (eq_by_cmp place_cmp p) (places_of_set css) sets) ∙ there) (λ set other here.
      let same = of_set p css set (reached_devices c css set) here in (
        below 6 p.css subsystems
            (omega arith, (omega arith, (omega arith, (omega arith, (omega arith, (omega arith, tt))))))
            (subst (λ k. IsIn k subsystems) (sym same.0) one),
        below 4 p.set sets (omega arith, (omega arith, (omega arith, (omega arith, tt))))
            (subst (λ k. IsIn k sets) (sym same.1) other),
      )))

  -- a place of no channel subsystem, or of no set, isn't reached
  none_in : (nat_lt p.css 6 ≡ true → nat_lt p.set 4 ≡ true → ⊥) → (b : Bool) → is_reached_at c p ≡ b
      → is_reached_at c p ≡ false
  none_in far true is = let near = reached_in is in absurd (far (lt-ltb p.css 6 near.0) (lt-ltb p.set 4 near.1))
  none_in far false is = is

-- whether a place is reached is the same where it is so in all channel subsystems and sets
pub same_in_range : (c d : Configuration) (p : Place) → (p.css < 6 → p.set < 4 → is_reached_at c p ≡ is_reached_at d p)
    → is_reached_at c p ≡ is_reached_at d p
same_in_range c d p same = by (nat_lt p.css 6) refl (nat_lt p.set 4) refl
  where
    far : (nat_lt p.css 6 ≡ true → nat_lt p.set 4 ≡ true → ⊥) → is_reached_at c p ≡ is_reached_at d p
    far out = none_in c p out (is_reached_at c p) refl ∙ sym (none_in d p out (is_reached_at d p) refl)

    by : (a : Bool) → nat_lt p.css 6 ≡ a → (b : Bool) → nat_lt p.set 4 ≡ b → is_reached_at c p ≡ is_reached_at d p
    by true css true set = same (ltb-true p.css 6 css) (ltb-true p.set 4 set)
    by true css false set = far (λ near small. false≢true (sym set ∙ small))
    by false css b set = far (λ near small. false≢true (sym css ∙ near))

-- The numbers at opening are those of the configuration, and what the numbers of a configuration
-- are.
use Rattle.std.proofs.Common.{◌≡◌, ℕ, ◌+◌, List, [], ◌∷◌, ◌++◌, map, is_some, refl, sym, ap, ◌∙◌}
use Rattle.std.proofs.lemmas.List.{map-append}
use Rattle.std.specs.List.{flat_map, list_any}
use Rattle.std.specs.Ordering.{eq_by_cmp}
use Rattle.std.specs.FinMap.{contains_key, get-from_entries}
use Rattle.std.specs.FinMap.Entries.{is_some-find}
use Rattle.iocm_types.specs.declared.place.Place.{Place}
use Rattle.iocm_types.specs.Place.{place_cmp}
use Rattle.iocm_types.specs.KeyOrder.{places_total}
use Rattle.iocm_model.specs.Machine.Configuration.{Configuration}
use Rattle.iocm_model.specs.Machine.Numbering.{subsystems, sets, reached_devices, reached_places, is_reached_at}
use Rattle.iocm_model.specs.Machine.Numbering.{numbers_from, opening}
use Rattle.iocm_model.specs.Laws.Numbers.{OpeningAreNumbers, ReachedPlacesAreOfDevices}
use Rattle.iocm_model.proofs.Numbers.First.{opening_apart, domain_at}

-- to map over parts is to map over each
map-flat_map : {A B C : Type 0} (g : B → C) (part : A → List B) (xs : List A)
    → map g (flat_map part xs) ≡ flat_map (λ x. map g (part x)) xs
map-flat_map g part [] = refl
map-flat_map g part (x ∷ xs) =
    map-append g (part x) (flat_map part xs) ∙ ap (λ ys. map g (part x) ++ ys) (map-flat_map g part xs)

-- equal parts make equal lists
same_parts : {A B : Type 0} (f g : A → List B) → ((x : A) → f x ≡ g x) → (xs : List A) → flat_map f xs ≡ flat_map g xs
same_parts f g same xs = λ i. flat_map (λ x. same x i) xs

-- the places of numbered devices are theirs
numbered_places : (css set n : ℕ) (ds : List ℕ) → map (λ (e : Place × ℕ). e.0) (numbers_from css set n ds)
    ≡ map (λ d. record { css = css; set = set; device = d }) ds
numbered_places css set n [] = refl
numbered_places css set n (d ∷ ds) =
    ap (λ (ps : List Place). record { css = css; set = set; device = d } ∷ ps) (numbered_places css set (n + 1) ds)

module _ (c : Configuration) where
  -- the first numbers of a channel subsystem and set
  abbrev of_set : ℕ → ℕ → List (Place × ℕ)
  of_set css set = numbers_from css set 0 (reached_devices c css set)

  -- the places of a channel subsystem and set that are reached
  abbrev places_of_set : ℕ → ℕ → List Place
  places_of_set css set = map (λ d. record { css = css; set = set; device = d }) (reached_devices c css set)

  -- the places that have a number at opening are those that are reached
  pub places_at_opening : map (λ (e : Place × ℕ). e.0) (flat_map (λ css. flat_map (of_set css) sets) subsystems)
      ≡ reached_places c
  places_at_opening =
      map-flat_map (λ (e : Place × ℕ). e.0) (λ css. flat_map (of_set css) sets) subsystems
      ∙ same_parts (λ css. map (λ (e : Place × ℕ). e.0) (flat_map (of_set css) sets))
      (λ css. flat_map (places_of_set css) sets)
      (λ css. map-flat_map (λ (e : Place × ℕ). e.0) (of_set css) sets
      ∙ same_parts (λ set. map (λ (e : Place × ℕ). e.0) (of_set css set)) (places_of_set css)
      (λ set. numbered_places css set 0 (reached_devices c css set)) sets)
      subsystems

-- at opening exactly the devices that are reached have a number
pub opening_exact : (c : Configuration) (p : Place) → contains_key (opening c) p ≡ is_reached_at c p
opening_exact c p =
    ap is_some (get-from_entries places_total (flat_map (λ css. flat_map (of_set c css) sets) subsystems) p)
    ∙ is_some-find place_cmp p (flat_map (λ css. flat_map (of_set c css) sets) subsystems)
    ∙ ap (list_any (eq_by_cmp place_cmp p)) (places_at_opening c)

-- the numbers at opening are those of the configuration
pub opening_are_numbers : OpeningAreNumbers
opening_are_numbers c = record { exact = opening_exact c; apart = opening_apart c }

-- a place is reached where the record of its device is
pub reached_places_are_of_devices : ReachedPlacesAreOfDevices
reached_places_are_of_devices c p keys low few = sym (opening_exact c p) ∙ domain_at c keys p.css p.set p.device low few

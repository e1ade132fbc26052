-- What is so of the first device of each run, told of each of its devices, is what is so of each device.
use Rattle.std.proofs.Common.{◌≡◌, cond, Bool, true, false, List, [], ◌∷◌, ◌++◌, map, filter, append_assoc}
use Rattle.std.proofs.Common.{refl, sym, ap, ◌∙◌}
use Rattle.std.specs.List.{flat_map, list_all}
use Rattle.std.proofs.lemmas.Bool.{and_parts}
use Rattle.std.specs.Cmp.Derive.{both_true}
use Rattle.iocm_model.specs.Machine.Configuration.{Configuration}
use Rattle.iocm_filter.specs.Wanted.{Wanted}
use Rattle.iocm_sight.specs.declared.devices.DeviceKey.{DeviceKey}
use Rattle.iocm_plan.specs.Runs.{alone, continues, devices_asked, devices_in_run, devices_of_both, runs_among}
use Rattle.iocm_plan.specs.Runs.{runs_asked, runs_from, wants_key, with_one_more}
use Rattle.iocm_plan.specs.ToldAlike.{Continues}
use Rattle.iocm_plan.specs.declared.runs.DeviceRun.{DeviceRun}
use Rattle.iocm_plan.proofs.RunDevices.{longer}

-- items that a test left pass it
left_pass : {A : Type 0} (p : A → Bool) (xs : List A) → list_all p (filter p xs) ≡ true
left_pass p [] = refl
left_pass p (x ∷ xs) = by (p x) refl (left_pass p xs)
  where
    by : (b : Bool) → p x ≡ b → list_all p (filter p xs) ≡ true
        → list_all p (cond b (x ∷ filter p xs) (filter p xs)) ≡ true
    by true is rest = both_true is rest
    by false is rest = rest

pub map_append : {A B : Type 0} (f : A → B) (xs ys : List A) → map f (xs ++ ys) ≡ map f xs ++ map f ys
map_append f [] ys = refl
map_append f (x ∷ xs) ys = ap (λ zs. f x ∷ zs) (map_append f xs ys)

module _ {X : Type 0} (w : Wanted) (c d : Configuration) (so : DeviceKey → X)
    (alike : (r : DeviceRun) (k : DeviceKey) → Continues w c d r k → so r.first ≡ so k) where
  -- a device with what is so of it, and the devices of a run with what is so of the first
  abbrev pub with_own : DeviceKey → DeviceKey × X
  with_own k = (k, so k)

  abbrev pub with_first : DeviceRun → List (DeviceKey × X)
  with_first r = map (λ (k : DeviceKey). (k, so r.first)) (devices_in_run r)

  one_more : (r : DeviceRun) (k : DeviceKey) → Continues w c d r k
      → with_first (with_one_more r) ≡ with_first r ++ with_own k ∷ []
  one_more r k h = ap (λ ks. map (λ (k : DeviceKey). (k, so r.first)) ks) (longer c d r k h.next)
      ∙ map_append (λ (k : DeviceKey). (k, so r.first)) (devices_in_run r) (k ∷ [])
      ∙ ap (λ v. with_first r ++ (k, v) ∷ []) (alike r k h)

  from_run : (r : DeviceRun) (ks : List DeviceKey) → wants_key w r.first ≡ true → list_all (wants_key w) ks ≡ true
      → flat_map with_first (runs_from c d r ks) ≡ with_first r ++ map with_own ks
  from_run r [] own asked = refl
  from_run r (k ∷ ks) own asked =
      by (continues c d r k) refl (and_parts (wants_key w k) (list_all (wants_key w) ks) asked).0
      (from_run (with_one_more r) ks own (and_parts (wants_key w k) (list_all (wants_key w) ks) asked).1)
      (from_run (alone k) ks (and_parts (wants_key w k) (list_all (wants_key w) ks) asked).0
      (and_parts (wants_key w k) (list_all (wants_key w) ks) asked).1)
    where
      by : (b : Bool) → continues c d r k ≡ b → wants_key w k ≡ true
          → flat_map with_first (runs_from c d (with_one_more r) ks) ≡ with_first (with_one_more r) ++ map with_own ks
          → flat_map with_first (runs_from c d (alone k) ks) ≡ with_own k ∷ map with_own ks
          → flat_map with_first (cond b (runs_from c d (with_one_more r) ks) (r ∷ runs_from c d (alone k) ks))
          ≡ with_first r ++ with_own k ∷ map with_own ks
      by true is next more other = more
          ∙ ap (λ xs. xs ++ map with_own ks) (one_more r k (record { next = is; first_asked = own; asked = next }))
          ∙ append_assoc (with_first r) (with_own k ∷ []) (map with_own ks)
      by false is next more other = ap (λ xs. with_first r ++ xs) other

  among : (ks : List DeviceKey) → list_all (wants_key w) ks ≡ true
      → flat_map with_first (runs_among c d ks) ≡ map with_own ks
  among [] asked = refl
  among (k ∷ ks) asked = from_run (alone k) ks (and_parts (wants_key w k) (list_all (wants_key w) ks) asked).0
      (and_parts (wants_key w k) (list_all (wants_key w) ks) asked).1

  pub by_runs : flat_map with_first (runs_asked w c d) ≡ map with_own (devices_asked w c d)
  by_runs = among (devices_asked w c d) (left_pass (wants_key w) (devices_of_both c d))

-- The devices of the runs are those of both configurations, and each is told as the first of its run.
use Rattle.std.proofs.Common.{◌≡◌, ℕ, zero, suc, ◌+◌, ◌&&◌, ◌==◌, cond, Bool, true, false, List, [], ◌∷◌, ◌++◌}
use Rattle.std.proofs.Common.{append_assoc}
use Rattle.std.proofs.Common.{refl, sym, ap, ◌∙◌, eqb-true, arith}
use Rattle.std.specs.List.{flat_map}
use Rattle.std.proofs.lemmas.Bool.{and_parts}
use Rattle.iocm_model.specs.Machine.Configuration.{Configuration}
use Rattle.iocm_plan.specs.Runs.{alone, are_alike, continues, devices_from, devices_asked, devices_in_run, runs_among}
use Rattle.iocm_plan.specs.Runs.{runs_from, with_one_more}
use Rattle.iocm_plan.specs.ToldAlike.{RunsAreTheDevices, RunsAreToldAlike}
use Rattle.iocm_sight.specs.declared.devices.DeviceKey.{DeviceKey}
use Rattle.iocm_plan.specs.declared.runs.DeviceRun.{DeviceRun}
use Rattle.iocm_plan.proofs.LeftAlike.{left_alike}

-- one more device at the end
abbrev at_end : ℕ → ℕ → List DeviceKey
at_end set number = record { set = set; number = number } ∷ []

one_more : (set number n : ℕ) → devices_from set number (suc n) ≡ devices_from set number n ++ at_end set (number + n)
one_more set number zero = let e : number ≡ number + 0 = omega arith in ap (at_end set) e
one_more set number (suc n) =
    let e : number + 1 + n ≡ number + suc n = omega arith in
    ap (λ (ks : List DeviceKey). record { set = set; number = number } ∷ ks)
    (one_more set (number + 1) n ∙ ap (λ x. devices_from set (number + 1) n ++ at_end set x) e)

module _ (c d : Configuration) where
  pub parts : (r : DeviceRun) (k : DeviceKey) → continues c d r k ≡ true
      → ((k.set == r.first.set && k.number == r.first.number + r.count) ≡ true) × (are_alike c d r.first k ≡ true)
  parts r k h = and_parts (k.set == r.first.set && k.number == r.first.number + r.count) (are_alike c d r.first k) h

  -- a run with a device that continues it
  pub longer : (r : DeviceRun) (k : DeviceKey) → continues c d r k ≡ true
      → devices_in_run (with_one_more r) ≡ devices_in_run r ++ k ∷ []
  longer r k h =
      let p = and_parts (k.set == r.first.set) (k.number == r.first.number + r.count) (parts r k h).0 in
      let e : r.count + 1 ≡ suc r.count = omega arith in
      ap (devices_from r.first.set r.first.number) e ∙ one_more r.first.set r.first.number r.count
      ∙ (λ i. devices_in_run r ++ record {
        set = sym (eqb-true k.set r.first.set p.0) i;
        number = sym (eqb-true k.number (r.first.number + r.count) p.1) i;
      } ∷ [])

  from_run : (r : DeviceRun) (ks : List DeviceKey)
      → flat_map devices_in_run (runs_from c d r ks) ≡ devices_in_run r ++ ks
  from_run r [] = refl
  from_run r (k ∷ ks) = by (continues c d r k) refl (from_run (with_one_more r) ks) (from_run (alone k) ks)
    where
      by : (b : Bool) → continues c d r k ≡ b
          → flat_map devices_in_run (runs_from c d (with_one_more r) ks) ≡ devices_in_run (with_one_more r) ++ ks
          → flat_map devices_in_run (runs_from c d (alone k) ks) ≡ k ∷ ks
          → flat_map devices_in_run (cond b (runs_from c d (with_one_more r) ks) (r ∷ runs_from c d (alone k) ks))
          ≡ devices_in_run r ++ k ∷ ks
      by true is more other = more ∙ ap (λ xs. xs ++ ks) (longer r k is) ∙ append_assoc (devices_in_run r) (k ∷ []) ks
      by false is more other = ap (λ xs. devices_in_run r ++ xs) other

  pub among : (ks : List DeviceKey) → flat_map devices_in_run (runs_among c d ks) ≡ ks
  among [] = refl
  among (k ∷ ks) = from_run (alone k) ks

pub runs_are_devices : RunsAreTheDevices
runs_are_devices w c d = among c d (devices_asked w c d)

pub runs_told_alike : RunsAreToldAlike
runs_told_alike w is_lost c d i r k h =
    left_alike w is_lost c d i r.first k (parts c d r k h.next).1 h.first_asked h.asked

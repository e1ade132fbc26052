-- There are as many devices in runs as devices of which the runs are.
use Rattle.std.proofs.Common.{◌≡◌, ℕ, ◌+◌, ◌^◌, ◌<◌, cond, Bool, true, false, List, [], ◌∷◌, refl, arith}
use Rattle.std.specs.Prelude.{length, sum_by}
use Rattle.std.proofs.lemmas.List.Sums.{sum_by-cons}
use Rattle.iocm_model.specs.Machine.Configuration.{Configuration}
use Rattle.iocm_plan.specs.Runs.{alone, continues, runs_among, runs_from, with_one_more}
use Rattle.iocm_sight.specs.declared.devices.DeviceKey.{DeviceKey}
use Rattle.iocm_plan.specs.declared.runs.DeviceRun.{DeviceRun}

abbrev pub devices_in : List DeviceRun → ℕ
devices_in rs = sum_by (λ (r : DeviceRun). r.count) rs

module _ (c d : Configuration) where
  counted_from : (r : DeviceRun) (ks : List DeviceKey) → devices_in (runs_from c d r ks) ≡ r.count + length ks
  counted_from r [] = sum_by-cons (λ (r : DeviceRun). r.count) r []
  counted_from r (k ∷ ks) = by (continues c d r k) (counted_from (with_one_more r) ks) (counted_from (alone k) ks)
    where
      by : (b : Bool) → devices_in (runs_from c d (with_one_more r) ks) ≡ (r.count + 1) + length ks
          → devices_in (runs_from c d (alone k) ks) ≡ 1 + length ks
          → devices_in (cond b (runs_from c d (with_one_more r) ks) (r ∷ runs_from c d (alone k) ks))
          ≡ r.count + length (k ∷ ks)
      by true longer next = omega arith
      by false longer next =
          let more = sum_by-cons (λ (r : DeviceRun). r.count) r (runs_from c d (alone k) ks) in omega arith

  counted : (ks : List DeviceKey) → devices_in (runs_among c d ks) ≡ length ks
  counted [] = refl
  counted (k ∷ ks) = let all = counted_from (alone k) ks in omega arith

pub few : (c d : Configuration) (ks : List DeviceKey) → length ks < 2 ^ 64
    → sum_by (λ (r : DeviceRun). r.count) (runs_among c d ks) < 2 ^ 64
few c d ks within = let all = counted c d ks in omega arith

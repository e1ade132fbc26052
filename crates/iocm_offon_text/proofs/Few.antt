-- The devices of a line are no more than there are.
use Rattle.std.proofs.Common.{ℕ, zero, suc, ◌^◌, ◌<◌, ◌≤◌, cond, Bool, true, false, List, [], ◌∷◌, arith}
use Rattle.std.specs.Prelude.{sum_by}
use Rattle.std.specs.List.{list_any}
use Rattle.std.proofs.lemmas.List.Sums.{sum_by-cons}
use Rattle.iocm_plan.specs.declared.runs.DeviceRun.{DeviceRun}
use Rattle.iocm_offon_text.specs.Lines.{count_below, tells, told_in}
use Rattle.iocm_offon.specs.Reached.{is_of_run, runs_in}
use Rattle.iocm_offon_text.specs.declared.line.ObjectRange.{ObjectRange}
use Rattle.iocm_offon.specs.declared.reason.Reason.{Reason}

one_or_none : (b : Bool) → cond b 1 0 ≤ 1
one_or_none true = omega arith
one_or_none false = omega arith

below : (n : ℕ) (p : ℕ → Bool) → count_below n p ≤ n
below zero p = omega arith
below (suc n) p = let rest = below n p in let one = one_or_none (p n) in omega arith

within : (os : List ObjectRange) (rs : List Reason) (ds : List DeviceRun)
    → sum_by (told_in os) (runs_in ds rs) ≤ sum_by (λ (d : DeviceRun). d.count) ds
within os rs [] = omega arith
within os rs (d ∷ ds) = by (list_any (is_of_run d) rs) (within os rs ds)
  where
    by : (b : Bool) → sum_by (told_in os) (runs_in ds rs) ≤ sum_by (λ (d : DeviceRun). d.count) ds
        → sum_by (told_in os) (cond b (d ∷ runs_in ds rs) (runs_in ds rs))
        ≤ sum_by (λ (d : DeviceRun). d.count) (d ∷ ds)
    by true rest =
        let own = below d.count (λ n. list_any (tells d n) os) in
        let one = sum_by-cons (told_in os) d (runs_in ds rs) in
        let all = sum_by-cons (λ (d : DeviceRun). d.count) d ds in omega arith
    by false rest = let all = sum_by-cons (λ (d : DeviceRun). d.count) d ds in omega arith

pub few_told : (os : List ObjectRange) (rs : List Reason) (ds : List DeviceRun)
    → sum_by (λ (d : DeviceRun). d.count) ds < 2 ^ 64 → sum_by (told_in os) (runs_in ds rs) < 2 ^ 64
few_told os rs ds few = let all = within os rs ds in omega arith

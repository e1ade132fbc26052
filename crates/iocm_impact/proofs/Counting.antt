-- Sums over runs: those of some runs are no more than those of all.
use Rattle.std.proofs.Common.{◌≡◌, ℕ, ◌+◌, ◌^◌, ◌<◌, ◌≤◌, cond, Bool, true, false, List, [], ◌∷◌, ◌++◌, map, filter}
use Rattle.std.proofs.Common.{arith}
use Rattle.std.specs.Prelude.{length, sum_by}
use Rattle.std.specs.List.{flat_map, zip}
use Rattle.std.proofs.lemmas.List.Sums.{sum_by-cons}
use Rattle.iocm_plan.specs.declared.effect.Effect.{Effect}
use Rattle.iocm_plan.specs.declared.runs.DeviceRun.{DeviceRun}
use Rattle.iocm_impact.specs.Counts.{count_with, marked_count}
use Rattle.iocm_impact.specs.Marks.{has}
use Rattle.iocm_impact.specs.Rows.{is_told, row_of, told_rows}
use Rattle.iocm_impact.specs.declared.marks.Mark.{Mark}
use Rattle.iocm_impact.specs.declared.marks.Marks.{Marks}
use Rattle.iocm_impact.specs.declared.row.Row.{Row}

abbrev pub devices_in : List DeviceRun → ℕ
devices_in rs = sum_by (λ (r : DeviceRun). r.count) rs

abbrev pub devices_told : List Row → ℕ
devices_told rs = sum_by (λ (r : Row). r.run.count) rs

-- no more devices have a mark than there are
part : (b : Bool) (k : ℕ) → cond b k 0 ≤ k
part true k = omega arith
part false k = omega arith

marked_within : (m : Mark) (rs : List DeviceRun) (ms : List Marks) → count_with m rs ms ≤ devices_in rs
marked_within m [] ms = omega arith
marked_within m (r ∷ rs) [] = omega arith
marked_within m (r ∷ rs) (n ∷ ns) =
    let own = sum_by-cons (marked_count m) (r, n) (zip rs ns) in
    let all = sum_by-cons (λ (r : DeviceRun). r.count) r rs in
    let rest = marked_within m rs ns in let one = part (has m n) r.count in omega arith

pub few_marked : (m : Mark) (rs : List DeviceRun) (ms : List Marks) → sum_by (λ (r : DeviceRun). r.count) rs < 2 ^ 64
    → count_with m rs ms < 2 ^ 64
few_marked m rs ms few = let within = marked_within m rs ms in omega arith

-- no more are told in rows
told_within : (rs : List DeviceRun) (es : List Effect) → devices_told (told_rows rs es) ≤ devices_in rs
told_within [] es = omega arith
told_within (r ∷ rs) [] = omega arith
told_within (r ∷ rs) (e ∷ es) = by (is_told (row_of (r, e))) (told_within rs es)
  where
    by : (b : Bool) → devices_told (told_rows rs es) ≤ devices_in rs
        → devices_told (cond b (row_of (r, e) ∷ told_rows rs es) (told_rows rs es)) ≤ devices_in (r ∷ rs)
    by true rest =
        let own = sum_by-cons (λ (r : Row). r.run.count) (row_of (r, e)) (told_rows rs es) in
        let all = sum_by-cons (λ (r : DeviceRun). r.count) r rs in omega arith
    by false rest = let all = sum_by-cons (λ (r : DeviceRun). r.count) r rs in omega arith

pub few_told : (rs : List DeviceRun) (es : List Effect) → sum_by (λ (r : DeviceRun). r.count) rs < 2 ^ 64
    → sum_by (λ (r : Row). r.run.count) (told_rows rs es) < 2 ^ 64
few_told rs es few = let within = told_within rs es in omega arith

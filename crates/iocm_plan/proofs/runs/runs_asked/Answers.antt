-- There are as many devices in runs as devices.
use Rattle.std.proofs.Common.{◌<◌, ◌^◌, List, arith, sym, subst}
use Rattle.std.specs.Prelude.{length, sum_by}
use Rattle.iocm_plan.specs.declared.runs.DeviceRun.{DeviceRun}
use Rattle.iocm_plan.proofs.RunSums.{few}
use Rattle.iocm_plan.proofs.runs.runs_asked.Goals as goal

pub returns-clause-few : goal.returns-clause-few
returns-clause-few c =
    let ks = c.deref.result.now in
    let P : List DeviceRun → Type 0 = λ rs. sum_by (λ (r : DeviceRun). r.count) rs < 2 ^ 64 in
    let within : length ks < 2 ^ 64 = omega (arith, c.deref.ensures.len, c.in_ok-devices.devices.small) in
    subst P (sym c.in_ok-runs.ensures) (few c.args.old.now.records c.args.new.now.records ks within)

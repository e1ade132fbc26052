-- To devices that are alike a change does the same.
use Rattle.iocm_plan.proofs.RunDevices.{runs_told_alike}
use Rattle.iocm_plan.proofs.ToldAlike.{told_alike}
use Rattle.iocm_plan.proofs.laws.alike_are_told_alike.Goals as goal

pub returns-clause-alike : goal.returns-clause-alike
returns-clause-alike c = told_alike

pub returns-clause-runs : goal.returns-clause-runs
returns-clause-runs c = runs_told_alike

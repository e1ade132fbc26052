-- The devices of the runs are all.
use Rattle.iocm_plan.proofs.RunDevices.{runs_are_devices}
use Rattle.iocm_plan.proofs.laws.runs_are_the_devices.Goals as goal

pub returns : goal.returns
returns c = runs_are_devices

use Rattle.iocm_round_trip.proofs.Running.{are_runs_of_devices, are_maximal, are_given_runs}
use Rattle.iocm_round_trip.proofs.laws.runs_are_the_devices.Goals as goal

pub returns : goal.returns
returns c = record { devices = are_runs_of_devices; maximal = are_maximal; given = are_given_runs }

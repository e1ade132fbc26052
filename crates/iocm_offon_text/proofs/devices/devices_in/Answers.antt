-- No more devices are told than there are.
use Rattle.iocm_offon_text.proofs.Few.{few_told}
use Rattle.iocm_offon_text.proofs.devices.devices_in.Goals as goal

pub told_sum-requires : goal.told_sum-requires
told_sum-requires c = few_told c.ranges-2.result.now c.reasons.result.now c.args.runs.now c.requires

-- No more devices have a mark than there are.
use Rattle.iocm_impact.proofs.Counting.{few_marked}
use Rattle.iocm_impact.proofs.counts.count_with.Goals as goal

pub marked_sum-requires : goal.marked_sum-requires
marked_sum-requires c = few_marked c.args.mark c.args.runs.now c.args.marks.now c.requires

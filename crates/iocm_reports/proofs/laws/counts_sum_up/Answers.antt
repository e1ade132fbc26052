use Rattle.iocm_reports.proofs.ByImage as counts
use Rattle.iocm_reports.proofs.laws.counts_sum_up.Goals as goal

pub returns : goal.returns
returns c = record { kinds = counts.rows_are_of_one_kind; all = counts.counts_sum_up }

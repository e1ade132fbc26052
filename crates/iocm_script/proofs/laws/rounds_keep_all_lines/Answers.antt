use Rattle.iocm_script.proofs.Keeping.{lines_kept, one_round_more}
use Rattle.iocm_script.proofs.laws.rounds_keep_all_lines.Goals as goal

pub returns : goal.returns
returns c = record { lines = lines_kept; rounds = one_round_more }

use Rattle.std.proofs.Output.{has_written_of_eq}
use Rattle.iocm_lines.proofs.Parted.{count_text}
use Rattle.iocm_lines.proofs.change.CountLineDisplay.fmt.Goals as goal

pub returns-clause-writes : goal.returns-clause-writes
returns-clause-writes g c = λ plain ok.
    has_written_of_eq _ _ _ _ _ (count_text c.args.self.now.0) (c.write.ensures.writes plain ok)

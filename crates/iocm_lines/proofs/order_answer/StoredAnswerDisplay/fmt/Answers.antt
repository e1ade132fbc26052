use Rattle.std.proofs.Output.{has_written_of_eq}
use Rattle.iocm_lines.proofs.Parted.{stored_text}
use Rattle.iocm_lines.proofs.order_answer.StoredAnswerDisplay.fmt.Goals as goal

pub returns-clause-writes : goal.returns-clause-writes
returns-clause-writes g c = λ plain ok.
    has_written_of_eq _ _ _ _ _ (stored_text c.args.self.now.0 c.args.self.now.1) (c.write.ensures.writes plain ok)

use Rattle.std.proofs.Output.{has_written_of_eq}
use Rattle.iocm_lines.proofs.Refusals.{refusal_text}
use Rattle.iocm_lines.proofs.answer.RefusalAnswerDisplay.fmt.Goals as goal

pub returns-clause-writes : goal.returns-clause-writes
returns-clause-writes g c = λ plain ok.
    let a = c.args.self.now in
    has_written_of_eq _ _ _ _ _ (refusal_text a.line a.why a.title.now) (c.write.ensures.writes plain ok)

use Rattle.std.proofs.Output.{has_written_of_eq}
use Rattle.iocm_lines.specs.Refused.{told}
use Rattle.iocm_lines.proofs.Refusals.{refused_text}
use Rattle.iocm_lines.proofs.refused.RefusedLineDisplay.fmt.Goals as goal

pub returns-clause-writes : goal.returns-clause-writes
returns-clause-writes g c = λ plain ok.
    has_written_of_eq _ _ _ _ _ (refused_text (told c.args.self.now)) (c.write.ensures.writes plain ok)

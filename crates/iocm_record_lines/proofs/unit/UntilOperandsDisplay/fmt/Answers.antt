use Rattle.std.proofs.Output.{has_written_of_eq}
use Rattle.iocm_record_lines.proofs.Parts.{cuadd_text}
use Rattle.iocm_record_lines.proofs.unit.UntilOperandsDisplay.fmt.Goals as goal

pub returns-in-Some-clause-writes : goal.returns-in-Some-clause-writes
returns-in-Some-clause-writes g c = rw c.in-Some.is (λ plain ok.
    has_written_of_eq _ _ _ _ _ (cuadd_text c.in-Some.cuadd) (c.write.ensures.writes plain ok))

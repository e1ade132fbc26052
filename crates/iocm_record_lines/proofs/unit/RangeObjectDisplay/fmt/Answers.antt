use Rattle.std.proofs.Output.{has_written_of_eq}
use Rattle.iocm_record_lines.proofs.Parts.{range_text}
use Rattle.iocm_record_lines.proofs.unit.RangeObjectDisplay.fmt.Goals as goal

pub returns-clause-writes : goal.returns-clause-writes
returns-clause-writes g c = λ plain ok.
    has_written_of_eq _ _ _ _ _ (range_text c.args.self.now.0) (c.write.ensures.writes plain ok)

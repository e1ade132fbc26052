use Rattle.std.proofs.Output.{has_written_of_eq}
use Rattle.iocm_types.specs.Print.{hex2}
use Rattle.iocm_lines.proofs.Texts.{hex2_stays}
use Rattle.iocm_record_lines.proofs.Parts.{between}
use Rattle.iocm_list_lines.proofs.texts.CuaddTextDisplay.fmt.Goals as goal

pub returns-in-Some-clause-writes : goal.returns-in-Some-clause-writes
returns-in-Some-clause-writes g c = rw c.in-Some.is (λ plain ok.
    let n = c.in-Some.cuadd in
    has_written_of_eq _ _ _ _ _ (between (hex2 n) (hex2_stays n)) (c.write.ensures.writes plain ok))

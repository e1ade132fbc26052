use Rattle.std.proofs.Output.{has_written_of_eq}
use Rattle.iocm_types.specs.Print.{hex2, hex4}
use Rattle.iocm_lines.proofs.Texts.{hex2_stays, hex4_stays}
use Rattle.iocm_record_lines.proofs.Parts.{between}
use Rattle.iocm_record_lines.proofs.paths.LinkTextDisplay.fmt.Goals as goal

pub returns-in-Short-clause-writes : goal.returns-in-Short-clause-writes
returns-in-Short-clause-writes g c = rw c.in-Short.is (λ plain ok.
    let n = c.in-Short.number in
    has_written_of_eq _ _ _ _ _ (between (hex2 n) (hex2_stays n)) (c.write.ensures.writes plain ok))

pub returns-in-Long-clause-writes : goal.returns-in-Long-clause-writes
returns-in-Long-clause-writes g c = rw c.in-Long.is (λ plain ok.
    let n = c.in-Long.number in
    has_written_of_eq _ _ _ _ _ (between (hex4 n) (hex4_stays n)) (c.write-in-Long.ensures.writes plain ok))

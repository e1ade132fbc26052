use Rattle.std.proofs.Output.{has_written_of_eq}
use Rattle.iocm_types.specs.Print.{hex4}
use Rattle.iocm_lines.proofs.Texts.{hex4_stays}
use Rattle.iocm_record_lines.proofs.Parts.{between}
use Rattle.iocm_list_lines.proofs.texts.DeviceTextDisplay.fmt.Goals as goal

pub returns-clause-writes : goal.returns-clause-writes
returns-clause-writes g c = λ plain ok.
    let n = c.args.self.now.0 in
    has_written_of_eq _ _ _ _ _ (between (hex4 n) (hex4_stays n)) (c.write.ensures.writes plain ok)

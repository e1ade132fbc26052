use Rattle.std.proofs.Output.{has_written_of_eq}
use Rattle.iocm_lines.specs.Members.{image_name}
use Rattle.iocm_lines.proofs.Texts.{image_stays}
use Rattle.iocm_record_lines.proofs.Parts.{between}
use Rattle.iocm_list_lines.proofs.texts.ImageTextDisplay.fmt.Goals as goal

pub returns-clause-writes : goal.returns-clause-writes
returns-clause-writes g c = λ plain ok.
    let i = c.args.self.now.0 in
    has_written_of_eq _ _ _ _ _ (between (image_name i) (image_stays i)) (c.write.ensures.writes plain ok)

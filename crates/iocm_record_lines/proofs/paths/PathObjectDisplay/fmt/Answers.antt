use Rattle.std.proofs.Common.{◌≡◌}
use Rattle.std.proofs.Output.{has_written_of_eq}
use Rattle.iocm_record_lines.proofs.Parts.{unit_path_text}
use Rattle.iocm_record_lines.proofs.paths.PathObjectDisplay.fmt.Goals as goal

pub returns-clause-writes : goal.returns-clause-writes
returns-clause-writes g c = λ plain ok.
    let css : c.number-css.result ≡ c.args.self.now.0.css = c.number-css.ensures.value in
    has_written_of_eq _ _ _ _ _ (unit_path_text c.args.self.now.0) (rw css at (c.write.ensures.writes plain ok))

use Rattle.std.proofs.Common.{◌≡◌}
use Rattle.std.proofs.Output.{has_written_of_eq}
use Rattle.iocm_record_lines.proofs.Parts.{place_text}
use Rattle.iocm_record_lines.proofs.undo.PlaceObjectDisplay.fmt.Goals as goal

pub returns-clause-writes : goal.returns-clause-writes
returns-clause-writes g c = λ plain ok.
    let p = c.args.self.now in
    let css : c.number-css.result ≡ p.0.css = c.number-css.ensures.value in
    let set : c.number-set.result ≡ p.0.set = c.number-set.ensures.value in
    has_written_of_eq _ _ _ _ _ (place_text (p.0, p.1)) (rw (css, set) at (c.write.ensures.writes plain ok))

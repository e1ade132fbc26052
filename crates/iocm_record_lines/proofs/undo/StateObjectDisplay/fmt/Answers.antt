use Rattle.std.proofs.Common.{◌≡◌}
use Rattle.std.proofs.Output.{has_written_of_eq}
use Rattle.iocm_record_lines.proofs.Parts.{state_text}
use Rattle.iocm_record_lines.proofs.undo.StateObjectDisplay.fmt.Goals as goal

pub returns-clause-writes : goal.returns-clause-writes
returns-clause-writes g c = λ plain ok.
    let s = c.args.self.now in
    let parm : c.number.result ≡ s.1.parm = c.number.ensures in
    has_written_of_eq _ _ _ _ _ (state_text (s.0, s.1)) (rw parm at (c.write.ensures.writes plain ok))

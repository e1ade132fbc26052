use Rattle.std.proofs.Output.{has_written_of_eq}
use Rattle.iocm_lines.specs.Refused.{input_text}
use Rattle.iocm_lines.proofs.Refusals.{input_member}
use Rattle.iocm_lines.proofs.Texts.{input_stays}
use Rattle.iocm_lines.proofs.refused.InputMemberDisplay.fmt.Goals as goal

pub returns-in-Some-clause-writes : goal.returns-in-Some-clause-writes
returns-in-Some-clause-writes g c = rw c.in-Some.is (λ plain ok.
    let i = c.in-Some.input in
    has_written_of_eq _ _ _ _ _ (input_member (input_text i) (input_stays i)) (c.write.ensures.writes plain ok))

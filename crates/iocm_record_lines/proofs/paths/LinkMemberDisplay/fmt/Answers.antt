use Rattle.std.proofs.Output.{has_written_of_eq}
use Rattle.json.specs.Print.{escape_byte}
use Rattle.serde_json.specs.Written.{compact_text}
use Rattle.iocm_record_lines.specs.Records.{link_value}
use Rattle.iocm_record_lines.proofs.Parts.{link_member}
use Rattle.iocm_record_lines.proofs.paths.LinkMemberDisplay.fmt.Goals as goal

pub returns-in-Some-clause-writes : goal.returns-in-Some-clause-writes
unfolding escape_byte
returns-in-Some-clause-writes g c = rw c.in-Some.is (λ plain ok.
    has_written_of_eq _ _ _ _ _ (link_member (compact_text (link_value c.in-Some.link))) (c.write.ensures.writes plain ok))

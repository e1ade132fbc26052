use Rattle.std.proofs.Common.{codes, ap, ◌∙◌, ◌++◌}
use Rattle.std.proofs.Output.{has_written_of_eq}
use Rattle.std.specs.Fmt.{decimal}
use Rattle.iocm_types.specs.Key.{key_text}
use Rattle.iocm_lines.specs.Members.{subchannel_name}
use Rattle.iocm_lines.proofs.Refusals.{about_member}
use Rattle.iocm_lines.proofs.Texts.{about_change_stays, about_subchannel_stays}
use Rattle.iocm_lines.proofs.refused.AboutMemberDisplay.fmt.Goals as goal

pub returns-in-Key-clause-writes : goal.returns-in-Key-clause-writes
returns-in-Key-clause-writes g c = rw c.in-Key.is (λ plain ok.
    has_written_of_eq _ _ _ _ _
    (ap (λ k. codes "\"about\":\"" ++ (key_text k ++ codes "\",")) c.plain_key-key.ensures.same
    ∙ about_member (key_text c.in-Key.key) c.plain_key-key.ensures.plain)
    (c.write.ensures.writes plain ok))

pub returns-in-Subchannel-clause-writes : goal.returns-in-Subchannel-clause-writes
returns-in-Subchannel-clause-writes g c = rw c.in-Subchannel.is (λ plain ok.
    let s = c.in-Subchannel.subchannel in
    has_written_of_eq _ _ _ _ _
    (about_member (codes "subchannel " ++ subchannel_name s) (about_subchannel_stays s))
    (c.write-in-Subchannel.ensures.writes plain ok))

pub returns-in-Change-clause-writes : goal.returns-in-Change-clause-writes
returns-in-Change-clause-writes g c = rw c.in-Change.is (λ plain ok.
    let n = c.in-Change.number in
    has_written_of_eq _ _ _ _ _
    (about_member (codes "change " ++ decimal n) (about_change_stays n))
    (c.write-in-Change.ensures.writes plain ok))

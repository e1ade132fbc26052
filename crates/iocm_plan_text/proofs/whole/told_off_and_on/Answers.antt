-- What is put behind nothing is the text.
use Rattle.std.proofs.Common.{◌++◌, ◌∙◌}
use Rattle.iocm_impact.specs.Gathered.{change}
use Rattle.iocm_offon_text.specs.Texts.{offon_text}
use Rattle.iocm_plan_text.proofs.whole.told_off_and_on.Goals as goal

pub returns : goal.returns
returns c = c.in_ok-put_offon.ensures ∙ (λ i. c.new-text.ensures.items i
    ++ offon_text (change (c.asked.view_is i).wanted (c.asked.view_is i).is_lost c.args.old.now.records
    c.args.new.now.records) c.args.objects.now)

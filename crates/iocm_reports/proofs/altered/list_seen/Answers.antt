use Rattle.std.proofs.Common.{◌++◌, ◌∙◌}
use Rattle.iocm_plant.specs.declared.touched.Touched.{Touched}
use Rattle.iocm_reports.specs.Gathered.{seen_before}
use Rattle.iocm_reports.proofs.Printed.{text_more}
use Rattle.iocm_reports.proofs.altered.list_seen.Goals as goal

pub loop-touched-preserved : goal.loop-touched-preserved
loop-touched-preserved c =
    c.in_ok-add_seen.ensures
    ∙ (λ i. c.loop-touched.invariant i ++ seen_before (c.as_slice.ensures.value i))
    ∙ text_more (λ (t : Touched). seen_before t.subchannels.items) c.args.performed.now c.loop-touched.touched-index
    c.touched-item.result c.loop-touched-test.true c.touched-item.is

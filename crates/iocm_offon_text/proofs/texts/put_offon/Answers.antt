-- The section of the lines, made of the images, the runs of devices, their reasons and the objects.
use Rattle.std.proofs.Common.{◌++◌, map, ap, ◌∙◌}
use Rattle.iocm_impact.specs.Gathered.{change}
use Rattle.iocm_objects.specs.Runs.{run_of}
use Rattle.iocm_offon_text.proofs.Whole.{lines_made, made, reasons_made}
use Rattle.iocm_offon_text.proofs.texts.put_offon.Goals as goal

pub returns : goal.returns
returns c =
    let x = change c.args.filters.now c.args.is_lost c.args.old.now.records c.args.new.now.records in
    let os = c.args.objects.now in
    let found = c.deref-5.ensures.value ∙ c.in_ok-reasons.ensures
    ∙ reasons_made x os c.deref.result.now c.deref-2.result.now (c.deref.ensures.value ∙ c.in_ok-images.ensures)
    (c.deref-2.ensures.value ∙ c.in_ok-runs.ensures.runs) in
    let lines = c.deref-9.ensures.value ∙ c.in_ok-lines.ensures
    ∙ lines_made x os c.deref-3.result.now c.deref-4.result.now c.deref-5.result.now
    (map run_of c.deref-6.result.now) (c.deref-3.ensures.value ∙ c.in_ok-images.ensures)
    (c.deref-4.ensures.value ∙ c.in_ok-runs.ensures.runs) found
    (ap (map run_of) c.deref-6.ensures.value ∙ c.in_ok-told.ensures) in
    c.in_ok-put_section.ensures
    ∙ ap (λ told. c.args.text.now.items ++ told)
    (made x os c.deref-7.result.now c.deref-8.result.now c.deref-9.result.now
    (c.deref-7.ensures.value ∙ c.in_ok-images.ensures) (c.deref-8.ensures.value ∙ c.in_ok-runs.ensures.runs) lines)

-- The line of one more run of objects.
use Rattle.std.proofs.Common.{◌+◌, drop, map, sym, ap, ◌∙◌}
use Rattle.iocm_types.proofs.Lists.{drop-item}
use Rattle.iocm_objects.specs.Runs.{run_of}
use Rattle.iocm_offon_text.specs.Lines.{lines_from, own_by, with_run}
use Rattle.iocm_offon_text.proofs.lines.lines_among.Goals as goal

pub loop-object-preserved : goal.loop-object-preserved
loop-object-preserved c =
    let is = c.args.images.now in
    let ds = c.args.runs.now in
    let rs = c.args.reasons.now in
    let o = run_of c.object-item.result in
    let ls = c.loop-object.lines.items in
    ap (λ now. lines_from is ds rs now (map run_of (drop (c.loop-object.object-index + 1) c.args.objects.now)))
    (c.in_ok-put_run.ensures
    ∙ (λ j. with_run is ls o (own_by (λ k. c.in_ok-table.ensures k j) ds o.count o.first.key)))
    ∙ ap (λ os. lines_from is ds rs ls (map run_of os))
    (sym (drop-item c.args.objects.now c.loop-object.object-index c.object-item.result c.loop-object-test.true
    c.object-item.is))
    ∙ c.loop-object.invariant

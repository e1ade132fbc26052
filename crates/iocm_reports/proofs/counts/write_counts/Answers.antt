use Rattle.std.proofs.Common.{[], ◌∷◌, ◌++◌, ◌≤◌, length, sym, ap, subst, ◌∙◌}
use Rattle.std.proofs.lemmas.List.{append-nil, append_assoc}
use Rattle.std.proofs.lemmas.List.Sums.{prefix_len-le-length}
use Rattle.iocm_console.proofs.Printing.{writes_as, writes_then}
use Rattle.iocm_reports.specs.Counts.{is_of, counts_line, counts_of, count_lines}
use Rattle.iocm_reports.proofs.ByImage.{front_line, no_lines}
use Rattle.iocm_reports.proofs.counts.write_counts.Goals as goal

pub split_at-requires : goal.split_at-requires
split_at-requires g c = subst (λ n. n ≤ length c.loop-row.left.now) (sym c.rows_in_front.ensures)
    (prefix_len-le-length (is_of c.in-Some.row.now.subchannel.image) c.loop-row.left.now)

pub loop-row-preserved : goal.loop-row-preserved
loop-row-preserved g c =
    let image = c.in-Some.row.now.subchannel.image in
    let next = front_line c.args.form c.loop-row.left.now c.in-Some.row.now _ c.rows_in_front.result c.split_at.result.0.now
    c.split_at.result.1.now c.in-Some.ensures.cases.0 c.loop-row.invariant.order c.rows_in_front.ensures
    c.split_at.ensures.front c.split_at.ensures.back in
    let written = c.loop-row.invariant.wrote.0 in
    let line = counts_line c.args.form (counts_of image c.split_at.result.0.now) in
    record {
      wrote = (
        written ++ line,
        writes_then c.loop-row.invariant.wrote.1 c.in_ok-write_image.ensures,
        append_assoc written line (count_lines c.args.form c.split_at.result.1.now) ∙ ap (λ text. written ++ text) (sym next.0)
            ∙ c.loop-row.invariant.wrote.2,
      );
      order = next.1;
    }

pub returns : goal.returns
returns g c =
    let written = c.loop-row.invariant.wrote.0 in
    writes_as c.loop-row.invariant.wrote.1
    (sym (append-nil written) ∙ ap (λ text. written ++ text) (sym (no_lines c.args.form c.loop-row.left.now c.in_default.ensures.cases))
    ∙ c.loop-row.invariant.wrote.2)

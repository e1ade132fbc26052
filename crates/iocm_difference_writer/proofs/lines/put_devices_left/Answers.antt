use Rattle.std.proofs.Common.{◌∙◌, ◌≤◌, ◌++◌, length, map, ap, arith}
use Rattle.iocm_tree_writer.specs.Written.{line_to_write}
use Rattle.iocm_difference_writer.specs.Written.{line_with}
use Rattle.iocm_difference_writer.proofs.Steps.{put_more, put_all}
use Rattle.iocm_difference_writer.proofs.lines.put_devices_left.Goals as goal

pub loop-statement-preserved : goal.loop-statement-preserved
loop-statement-preserved g c =
    put_more line_to_write (line_with c.args.verb) c.deref-statement-items.result.now c.loop-statement.statement-index
    c.args.deck.now.items
    c.statement-item.result c.loop-statement.deck.items c.put_line.new.deck.items c.loop-statement-test.true
    c.statement-item.is
    c.loop-statement.invariant c.in_ok-put_line.ensures

pub returns : goal.returns
returns g c =
    let past : length c.deref-statement-items.result.now ≤ c.loop-statement.statement-index =
    omega (arith, c.loop-statement-test.false) in
    put_all line_to_write (line_with c.args.verb) c.deref-statement-items.result.now c.loop-statement.statement-index
    c.args.deck.now.items
    c.loop-statement.deck.items past c.loop-statement.invariant
    ∙ ap (λ ss. c.args.deck.now.items ++ map line_to_write (map (line_with c.args.verb) ss))
    (c.deref-statement-items.ensures.value ∙ c.in_ok-statements.ensures)

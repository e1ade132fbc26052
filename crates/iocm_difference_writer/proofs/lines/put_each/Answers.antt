use Rattle.iocm_tree_writer.specs.Written.{action_line, line_to_write}
use Rattle.iocm_difference_writer.proofs.Steps.{put_each_more}
use Rattle.iocm_difference_writer.proofs.lines.put_each.Goals as goal

pub loop-edit-preserved : goal.loop-edit-preserved
loop-edit-preserved g c =
    put_each_more line_to_write action_line c.args.run.now c.loop-edit.edit-index c.args.deck.now.items
    c.edit-item.result c.loop-edit.deck.items c.put_edit.new.deck.items
    c.loop-edit-test.true c.edit-item.is c.loop-edit.invariant c.in_ok-put_edit.ensures

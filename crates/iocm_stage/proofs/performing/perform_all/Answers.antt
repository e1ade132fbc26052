use Rattle.std.proofs.Common.{reverse}
use Rattle.iocm_stage.proofs.EditsLeft.{next_is, next_performed}
use Rattle.iocm_stage.proofs.performing.perform_all.Goals as goal

pub loop-edit-preserved : goal.loop-edit-preserved
loop-edit-preserved c = next_performed c.args.plant.now c.loop-edit.plant c.unapply-back.new.self
    (reverse c.args.edits.items) (reverse c.loop-edit.edits.items)
    (reverse c.pop.new.self.items) c.in-Some.edit c.loop-edit.invariant
    (next_is c.loop-edit.edits.items c.pop.new.self.items c.in-Some.edit c.in-Some.ensures.items)
    c.unapply-back.ensures.state c.unapply-back.ensures.room

use Rattle.std.proofs.Common.{◌∙◌, ap, refl, take}
use Rattle.iocm_activate.proofs.Taking.{begins, last_can, one_taken, all_taken, first_left}
use Rattle.iocm_activate.proofs.taking_back.take_back.Goals as goal

pub loop-applied-init : goal.loop-applied-init
loop-applied-init c = (begins c.args.mark.done c.args.plant.now c.args.log.now.done.items c.requires, refl)

pub unapply-again-requires : goal.unapply-again-requires
unapply-again-requires c =
    last_can c.args.mark.done c.args.plant.now c.loop-applied.plant c.args.log.now.done.items
    c.loop-applied.log.done.items
    c.pop_past.new.done.items c.in-Some.applied
    c.loop-applied.invariant.0 c.in-Some.ensures.most c.in-Some.ensures.done

pub loop-applied-preserved : goal.loop-applied-preserved
loop-applied-preserved c = (
  one_taken c.args.mark.done c.args.plant.now c.loop-applied.plant c.unapply-again.new.self c.args.log.now.done.items
      c.loop-applied.log.done.items
      c.pop_past.new.done.items c.in-Some.applied c.loop-applied.invariant.0 c.in-Some.ensures.most
      c.in-Some.ensures.done c.unapply-again.ensures.state
      c.unapply-again.ensures.room,
  c.loop-applied.invariant.1,
)

pub returns-clause-state : goal.returns-clause-state
returns-clause-state c =
    all_taken c.args.mark.done c.args.plant.now c.loop-applied.plant c.args.log.now.done.items
    c.loop-applied.log.done.items
    c.loop-applied.invariant.0 c.in_default.ensures.most

pub returns-clause-room : goal.returns-clause-room
returns-clause-room c = c.loop-applied.invariant.0.room

pub returns-clause-done : goal.returns-clause-done
returns-clause-done c =
    c.in_default.ensures.done
    ∙ first_left c.args.mark.done c.args.plant.now c.loop-applied.plant c.args.log.now.done.items
    c.loop-applied.log.done.items
    c.loop-applied.invariant.0 c.in_default.ensures.most

pub returns-clause-keys : goal.returns-clause-keys
returns-clause-keys c = c.truncate.ensures.items ∙ ap (λ ks. take c.args.mark.keys ks.items) c.loop-applied.invariant.1

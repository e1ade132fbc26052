use Rattle.std.proofs.Common.{rules}
use Rattle.iocm_queue.proofs.Settling.{settles}
use Rattle.iocm_queue.proofs.Steps.{learns, takes_in}
use Rattle.iocm_queue.proofs.worker.Worker.settle.Goals as goal

pub absorb-requires-clause-rule : goal.absorb-requires-clause-rule
absorb-requires-clause-rule g c = takes_in _ _ _ _ c.done.invariant.speaks.sends

pub learn_as-requires-clause-rule : goal.learn_as-requires-clause-rule
learn_as-requires-clause-rule g c = learns _ _ (search rules) (search rules)

pub returns-clause-all : goal.returns-clause-all
returns-clause-all g c =
    settles c.self.inside.pass c.done.inside.pass c.absorb.new.pass c.done.inside.number c.args.self.now c.args.done
    c.self.view_is c.done.view_is c.done.invariant.speaks c.absorb.ensures.rule
    c.learn_as.ensures.rule c.requires.over

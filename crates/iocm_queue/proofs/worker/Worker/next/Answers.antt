use Rattle.iocm_queue.proofs.Counting.{took_end, took_line}
use Rattle.iocm_queue.proofs.Steps.{takes}
use Rattle.iocm_queue.proofs.worker.Worker.next.Goals as goal

pub recv_as-requires-clause-rule : goal.recv_as-requires-clause-rule
recv_as-requires-clause-rule g c = (takes _ _ c.self.invariant.takes, λ items views kept at. tt)

pub invariant_of-self : goal.invariant_of-self
invariant_of-self g c =
    took_line c.self.inside.sender c.self.inside.receiver c.self.inside.pass c.recv_as.new.pass c.self.inside.progress
    c.self.invariant c.in-Ok.ensures.channel.0
    c.from-operator.result c.in-Line.number c.in-Line.item c.in-Ok.message c.in-Line.is c.from-operator.ensures
    c.in-Ok.ensures.rule

pub invariant_of-self-in-End : goal.invariant_of-self-in-End
invariant_of-self-in-End g c =
    took_end c.self.inside.sender c.self.inside.receiver c.self.inside.pass c.recv_as.new.pass c.self.inside.progress
    c.self.invariant c.in-Ok.ensures.channel.0
    c.from.result c.in-End.number c.in-Ok.message c.in-End.is c.from.ensures c.in-Ok.ensures.rule

use Rattle.std.proofs.Common.{sym}
use Rattle.crossbeam_channel.specs.Ends.{sends_on}
use Rattle.iocm_queue.proofs.Speaking.{ends_it, full_is_full, is_full, one_channel, speaks_end}
use Rattle.iocm_queue.proofs.Steps.{sends, waits}
use Rattle.iocm_queue.proofs.operator.Operator.finish.Goals as goal

pub try_send_as-requires-clause-rule : goal.try_send_as-requires-clause-rule
try_send_as-requires-clause-rule g c = (
  sends _ _ _ _ c.self.invariant.speaks.sends (sym c.self.invariant.speaks.by),
  waits _ _ c.self.invariant.speaks.sends,
)

pub invariant_of-result : goal.invariant_of-result
invariant_of-result g c =
    record {
      free = c.in-Ok.ensures.channel.0.2;
      speaks = speaks_end _ _ _ c.self.invariant.speaks c.in-Ok.ensures.rule;
    }

pub returns-in-Ok-clause-finished : goal.returns-in-Ok-clause-finished
returns-in-Ok-clause-finished g c =
    let p = c.self.inside.pass in
    let q = c.try_send_as.new.pass in
    ends_it c.self.inside.number p q c.args.self c.self.view_is
    (one_channel (sends_on c.self.inside.sender) p q c.self.invariant.sender.at c.in-Ok.ensures.channel.0)
    c.in-Ok.ensures.rule

pub returns-in-Err-Full-clause-full : goal.returns-in-Err-Full-clause-full
returns-in-Err-Full-clause-full g c =
    let told = c.in-Err-Full.ensures.rule.2 (full_is_full _ _ c.in-Err-Full.field-0-is) in
    is_full _ c.self.inside.number c.self.inside.pass c.args.self c.self.invariant.sender.places c.self.invariant.speaks
    c.self.view_is told

use Rattle.std.proofs.Common.{sym}
use Rattle.crossbeam_channel.specs.Ends.{sends_on}
use Rattle.iocm_queue.proofs.Speaking.{full_is_full, is_full, one_channel, sends_it, speaks_line}
use Rattle.iocm_queue.proofs.Steps.{sends, waits}
use Rattle.iocm_queue.proofs.operator.Operator.submit.Goals as goal

pub try_send_as-requires-clause-rule : goal.try_send_as-requires-clause-rule
try_send_as-requires-clause-rule g c = (
  sends _ _ _ _ c.self.invariant.speaks.sends (sym c.self.invariant.speaks.by),
  waits _ _ c.self.invariant.speaks.sends,
)

pub invariant_of-self : goal.invariant_of-self
invariant_of-self g c =
    record {
      sender = record { at = c.in-Ok.ensures.channel.0; places = c.self.invariant.sender.places };
      speaks = speaks_line _ _ _ _ c.self.invariant.speaks c.in-Ok.ensures.rule;
    }

pub returns-in-Ok-clause-sent : goal.returns-in-Ok-clause-sent
returns-in-Ok-clause-sent g c =
    let p = c.self.inside.pass in
    let q = c.try_send_as.new.pass in
    sends_it c.self.inside.number c.args.item p q c.args.self.now c.self.view_is
    (one_channel (sends_on c.self.inside.sender) p q c.self.invariant.sender.at c.in-Ok.ensures.channel.0)
    c.in-Ok.ensures.rule

pub returns-in-Err-Full-Line-clause-full : goal.returns-in-Err-Full-Line-clause-full
returns-in-Err-Full-Line-clause-full g c =
    let told = c.in-Err-Full-Line.ensures.rule.2 (full_is_full _ _ c.in-Err-Full-Line.field-0-is) in
    is_full _ c.self.inside.number c.self.inside.pass c.args.self.now c.self.invariant.sender.places
    c.self.invariant.speaks c.self.view_is told

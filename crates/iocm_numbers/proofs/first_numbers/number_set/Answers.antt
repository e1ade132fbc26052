-- One device more.
use Rattle.std.proofs.Common.{sym, ap, ◌∙◌}
use Rattle.iocm_numbers.proofs.FirstRows.{kept_past, kept_here}
use Rattle.iocm_numbers.proofs.first_numbers.number_set.Goals as goal
use Rattle.iocm_numbers.proofs.first_numbers.number_set.Goals.{then-is_numbered+in_ok-push, else-is_numbered}

pub loop-device-preserved : goal.loop-device-preserved
loop-device-preserved g c = elim c.if-is_numbered.branch [
  | then-is_numbered+in_ok-push w ↦
      kept_here c.args.css c.args.set c.loop-device.next c.args.devices.now c.loop-device.device-index
      c.device-item.result
      c.loop-device-test.true c.device-item.is _ c.loop-device.rows.items c.if-is_numbered.rows.items
      c.if-is_numbered.next c.loop-device.invariant
      (sym c.is_numbered.ensures ∙ w.if-is_numbered.true) (ap (λ v. v.items) w.rows-is ∙ w.in_ok-push.ensures.items)
      w.next-is
  | else-is_numbered w ↦ kept_past c.args.css c.args.set c.loop-device.next c.args.devices.now
      c.loop-device.device-index c.device-item.result
      c.loop-device-test.true c.device-item.is _ c.loop-device.rows.items c.if-is_numbered.rows.items
      c.if-is_numbered.next c.loop-device.invariant
      (sym c.is_numbered.ensures ∙ w.if-is_numbered.false) (ap (λ v. v.items) w.rows-is) w.next-is
]

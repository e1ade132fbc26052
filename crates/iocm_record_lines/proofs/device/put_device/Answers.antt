use Rattle.iocm_record.specs.Meaning.{device_of}
use Rattle.iocm_record_lines.proofs.Parts.{device_put}
use Rattle.iocm_record_lines.proofs.device.put_device.Goals as goal

pub returns : goal.returns
returns g c =
    rw (
      c.in_ok-push.ensures.items,
      c.in_ok-put_units.ensures,
      c.units.ensures,
      c.in_ok-put-3.ensures,
      c.in_ok-put_operands.ensures,
      c.carried.ensures,
      c.in_ok-put-2.ensures,
      c.in_ok-put_candidates.ensures,
      c.candidates.ensures,
      c.in_ok-put.ensures,
    ) (device_put c.args.text.now.items (device_of c.args.device.now))

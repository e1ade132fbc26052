use Rattle.iocm_record.specs.Meaning.{unit_of}
use Rattle.iocm_record_lines.proofs.Parts.{unit_put}
use Rattle.iocm_record_lines.proofs.unit.put_unit.Goals as goal

pub returns : goal.returns
returns g c =
    rw (
      c.in_ok-push.ensures.items,
      c.in_ok-put_ranges.ensures,
      c.as_slice-2.ensures,
      c.in_ok-put-2.ensures,
      c.in_ok-put_unit_paths.ensures,
      c.in_ok-extend_from_slice.ensures.items,
      c.in_ok-put_operands.ensures,
      c.as_slice.ensures.value,
      c.in_ok-put.ensures,
    ) (unit_put c.args.text.now.items (unit_of c.args.unit.now))

use Rattle.iocm_record_lines.proofs.Parts.{line_put}
use Rattle.iocm_record_lines.proofs.lines.put_record_line.Goals as goal

pub returns : goal.returns
returns g c =
    rw (
      c.in_ok-extend_from_slice-3.ensures.items,
      c.in_ok-put_record.ensures,
      c.in_ok-extend_from_slice-2.ensures.items,
      c.in_ok-put_key.ensures,
      c.in_ok-extend_from_slice.ensures.items,
    ) (line_put c.args.text.now.items c.args.key.now c.args.entry.now)

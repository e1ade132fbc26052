use Rattle.iocm_record_lines.proofs.Parts.{undo_put}
use Rattle.iocm_record_lines.proofs.undo.put_undo_line.Goals as goal

pub returns : goal.returns
returns g c =
    rw (
      c.in_ok-extend_from_slice-5.ensures.items,
      c.edit_end.ensures,
      c.verb.ensures,
      c.in_ok-put_states.ensures,
      c.kept.ensures,
      c.in_ok-extend_from_slice-4.ensures.items,
      c.in_ok-put_numbers.ensures,
      c.places.ensures,
      c.in_ok-extend_from_slice-3.ensures.items,
      c.in_ok-put_key.ensures,
      c.key.ensures,
      c.in_ok-extend_from_slice-2.ensures.items,
      c.in_ok-put_any_record.ensures,
      c.after.ensures,
      c.in_ok-extend_from_slice.ensures.items,
    ) (undo_put c.args.text.now.items c.args.edit.now.edit)

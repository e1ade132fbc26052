use Rattle.std.specs.Option.{option_copied}
use Rattle.iocm_record_lines.proofs.Parts.{edit_put}
use Rattle.iocm_record_lines.proofs.edits.put_edit.Goals as goal

pub returns : goal.returns
returns g c =
    rw (
      c.in_ok-extend_from_slice-4.ensures.items,
      c.edit_end.ensures,
      c.verb.ensures,
      c.in_ok-put_key.ensures,
      c.key.ensures,
      c.in_ok-extend_from_slice-3.ensures.items,
      c.in_ok-put_any_record-2.ensures,
      c.in_ok-extend_from_slice-2.ensures.items,
      c.in_ok-put_any_record.ensures,
      c.after.ensures,
      c.in_ok-extend_from_slice.ensures.items,
    ) (edit_put c.args.text.now.items (option_copied c.args.before) c.args.edit.now.edit.action)

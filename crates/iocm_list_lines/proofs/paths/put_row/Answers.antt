use Rattle.iocm_list_lines.proofs.Parts.{path_put}
use Rattle.iocm_list_lines.proofs.paths.put_row.Goals as goal

pub returns : goal.returns
returns c =
    rw (
      c.in_ok-push.ensures.items,
      c.in_ok-put_word.ensures,
      c.as_bytes.ensures.value,
      c.use_text.ensures,
      c.in_ok-put_units.ensures,
      c.as_slice-3.ensures,
      c.in_ok-extend_from_slice-3.ensures.items,
      c.in_ok-put_member-3.ensures,
      c.in_ok-put_names-2.ensures,
      c.as_slice-2.ensures,
      c.in_ok-extend_from_slice-2.ensures.items,
      c.in_ok-put_names.ensures,
      c.as_slice.ensures,
      c.in_ok-extend_from_slice.ensures.items,
      c.in_ok-put_member-2.ensures,
      c.in_ok-put_member.ensures,
      c.number.ensures.value,
      c.in_ok-put_carried-6.ensures,
      c.in_ok-put_carried-5.ensures,
      c.in_ok-put_carried-4.ensures,
      c.in_ok-put_carried-3.ensures,
      c.in_ok-put_carried-2.ensures,
      c.in_ok-put_carried.ensures,
    ) (path_put c.args.text.now.items c.args.row.now)

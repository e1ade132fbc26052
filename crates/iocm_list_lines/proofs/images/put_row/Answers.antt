use Rattle.iocm_list_lines.proofs.Parts.{image_put}
use Rattle.iocm_list_lines.proofs.images.put_row.Goals as goal

pub returns : goal.returns
returns c =
    rw (
      c.in_ok-extend_from_slice-2.ensures.items,
      c.in_ok-put_member-6.ensures,
      c.in_ok-put_member-5.ensures,
      c.in_ok-put_member-4.ensures,
      c.in_ok-put_sets.ensures,
      c.as_slice.ensures.value,
      c.in_ok-extend_from_slice.ensures.items,
      c.in_ok-put_member-3.ensures,
      c.in_ok-put_word.ensures,
      c.as_bytes.ensures.bytes,
      c.in_ok-put_member-2.ensures,
      c.in_ok-put_member.ensures,
      ← c.row.view_is,
    ) (image_put c.args.text.now.items _)

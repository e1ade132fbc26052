use Rattle.iocm_list_lines.proofs.Parts.{device_put}
use Rattle.iocm_list_lines.proofs.devices.put_row.Goals as goal

pub returns : goal.returns
returns c =
    rw (
      c.in_ok-push.ensures.items,
      c.in_ok-put_units.ensures,
      c.as_slice-3.ensures.value,
      c.in_ok-extend_from_slice-3.ensures.items,
      c.in_ok-put_member-5.ensures,
      c.number.ensures.value,
      c.in_ok-put_paths.ensures,
      c.as_slice-2.ensures.value,
      c.in_ok-extend_from_slice-2.ensures.items,
      c.in_ok-put_member-4.ensures,
      c.last_of-last.ensures,
      c.in_ok-put_images.ensures,
      c.as_slice.ensures.value,
      c.in_ok-extend_from_slice.ensures.items,
      c.in_ok-put_member-3.ensures,
      c.in_ok-put_member-2.ensures,
      c.in_ok-put_member.ensures,
      c.in_ok-put_carried.ensures,
      ← c.row.view_is,
    ) (device_put c.args.text.now.items _)

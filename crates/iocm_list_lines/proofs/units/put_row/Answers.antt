use Rattle.iocm_list_lines.proofs.Parts.{unit_put}
use Rattle.iocm_list_lines.proofs.units.put_row.Goals as goal

pub returns : goal.returns
returns c =
    rw (
      c.in_ok-push.ensures.items,
      c.in_ok-put_ranges.ensures,
      c.as_slice-3.ensures,
      c.in_ok-extend_from_slice-3.ensures.items,
      c.in_ok-put_member-3.ensures,
      c.in_ok-put_devices.ensures,
      c.as_slice-2.ensures,
      c.in_ok-extend_from_slice-2.ensures.items,
      c.in_ok-put_paths.ensures,
      c.as_slice.ensures,
      c.in_ok-extend_from_slice.ensures.items,
      c.in_ok-put_member-2.ensures,
      c.in_ok-put_member.ensures,
      c.in_ok-put_carried.ensures,
    ) (unit_put c.args.text.now.items c.args.row.now)

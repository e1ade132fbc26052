use Rattle.std.proofs.Common.{arith}
use Rattle.iocm_lines.proofs.InParts.{seen_in_parts}
use Rattle.iocm_lines.proofs.altered.put_view.Goals as goal

pub returns-clause-text : goal.returns-clause-text
returns-clause-text c =
    rw (
      c.put-4.ensures.text,
      c.seen_end.ensures,
      c.put_paths-3.ensures.text,
      c.put-3.ensures.text,
      c.seen_until_paths.ensures,
      c.put_paths-2.ensures.text,
      c.put-2.ensures.text,
      c.seen_until_installed.ensures.text,
      c.put_paths.ensures.text,
      c.put.ensures.text,
      c.as_slice-paths.ensures.list,
      c.bits-pam.ensures,
      c.bits-pim.ensures,
    )
    (seen_in_parts c.args.line.now.items c.args.view.now c.seen_until_installed.ensures.device (omega arith)
    (omega arith) c.as_slice-paths.ensures.most)

use Rattle.std.proofs.Common.{arith}
use Rattle.std.specs.Option.{option_copied}
use Rattle.iocm_lines.proofs.InParts.{altered_in_parts}
use Rattle.iocm_lines.proofs.altered.put_altered.Goals as goal

pub returns : goal.returns
returns c =
    rw (
      c.put-3.ensures.text,
      c.altered_end.ensures,
      c.put_seen-2.ensures.text,
      c.put-2.ensures.text,
      c.put_seen.ensures.text,
      c.put.ensures.text,
      c.requires,
    )
    (altered_in_parts c.args.id (option_copied c.args.before) (option_copied c.args.after) (omega arith) (omega arith)
    (omega arith) (omega arith))

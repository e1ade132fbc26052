use Rattle.std.proofs.Common.{arith}
use Rattle.iocm_lines.proofs.Hex.{path_by_places}
use Rattle.iocm_lines.proofs.json_line.put_path.Goals as goal

pub returns-clause-text : goal.returns-clause-text
returns-clause-text c =
    rw (
      c.push-4.ensures.items,
      c.push-3.ensures.items,
      c.push-2.ensures.items,
      c.push.ensures.items,
      c.digits.ensures,
      c.number.ensures,
    ) (path_by_places c.args.line.now.items c.args.path (omega arith))

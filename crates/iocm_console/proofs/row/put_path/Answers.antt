use Rattle.std.proofs.Common.{arith}
use Rattle.iocm_console.proofs.Line.{path_by_places}
use Rattle.iocm_console.proofs.row.put_path.Goals as goal

pub returns-clause-text : goal.returns-clause-text
returns-clause-text c =
    rw (c.push-3.ensures.items, c.push-2.ensures.items, c.push.ensures.items, c.digits.ensures, c.number.ensures)
    (path_by_places c.args.line.now.items c.args.path (omega arith))

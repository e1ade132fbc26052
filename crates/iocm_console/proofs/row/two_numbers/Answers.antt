use Rattle.std.proofs.Common.{arith}
use Rattle.iocm_console.proofs.Line.{two_by_places}
use Rattle.iocm_console.proofs.row.two_numbers.Goals as goal

pub returns : goal.returns
returns c =
    rw (c.digits.ensures, c.digits-2.ensures, c.digits-3.ensures, c.digits-4.ensures, c.number-device.ensures)
    (two_by_places c.args.number c.args.device (omega arith) (omega arith))

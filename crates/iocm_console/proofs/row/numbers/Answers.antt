use Rattle.std.proofs.Common.{arith}
use Rattle.iocm_console.proofs.Line.{line_by_places}
use Rattle.iocm_console.proofs.row.numbers.Goals as goal

pub returns : goal.returns
returns c =
    rw (
      c.digit.ensures,
      c.digit-2.ensures,
      c.digit-3.ensures,
      c.number.ensures.value,
      c.number-2.ensures.value,
      c.number-3.ensures.value,
      c.digits.ensures,
      c.digits-2.ensures,
      c.digits-3.ensures,
      c.digits-4.ensures,
      c.digits-5.ensures,
      c.digits-6.ensures,
      c.number-device.ensures,
      c.bits.ensures,
      c.bits-2.ensures,
    )
    (line_by_places c.args.id c.args.view.now (omega arith) (omega arith) (omega arith) (omega arith) (omega arith)
    (omega arith) (omega arith))

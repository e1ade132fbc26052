use Rattle.std.proofs.Common.{arith, get_or, refl}
use Rattle.iocm_columns.proofs.Cut.{cut_ends, cut_goes_on}
use Rattle.iocm_columns.proofs.written.put_columns.Goals as goal

pub loop-byte-preserved : goal.loop-byte-preserved
loop-byte-preserved c = (
  c.column_behind-column.ensures.within,
  cut_goes_on c.loop-byte.text.items _ _ c.loop-byte.column _ c.args.columns.now c.loop-byte.byte-index
      (get_or c.args.columns.now c.loop-byte.byte-index 0) 0
      c.loop-byte-test.true refl c.loop-byte.invariant.1 c.in_ok-put_byte.ensures c.column_behind-column.ensures.column,
)

pub returns : goal.returns
returns c = cut_ends c.loop-byte.text.items _ c.loop-byte.column c.args.columns.now c.loop-byte.byte-index
    (omega (arith, c.loop-byte-test.false)) c.loop-byte.invariant.1

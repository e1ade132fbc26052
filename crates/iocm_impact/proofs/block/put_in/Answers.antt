-- The image is in the first block with equal rows, or in one of its own.
use Rattle.std.proofs.Common.{arith}
use Rattle.iocm_impact.proofs.Placed.{placed_at, placed_last}
use Rattle.iocm_impact.proofs.block.put_in.Goals as goal

pub returns-then-place-len : goal.returns-then-place-len
returns-then-place-len c =
    placed_at c.args.image c.args.rows.items c.deref.result.now c.args.blocks.now.items c.as_slice.result.now
    c.put_at.new.blocks.items c.place_of-place.result c.deref.ensures.value c.as_slice.ensures.value
    c.place_of-place.ensures (omega (arith, c.if-place-len.true, c.len.ensures, c.as_slice.ensures.len))
    c.in_ok-put_at.ensures

pub returns : goal.returns
returns c =
    placed_last c.args.image c.args.rows.items c.deref.result.now c.args.blocks.now.items c.as_slice.result.now
    c.push.new.self.items c.place_of-place.result c.deref.ensures.value c.as_slice.ensures.value
    c.place_of-place.ensures (omega (arith, c.if-place-len.false, c.len.ensures, c.as_slice.ensures.len))
    c.in_ok-block.block c.in_ok-block.ensures c.in_ok-push.ensures.items

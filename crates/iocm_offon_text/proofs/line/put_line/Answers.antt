-- The line is told with the first of which the same is told, or behind all of them.
use Rattle.std.proofs.Common.{arith}
use Rattle.iocm_offon_text.proofs.Placed.{placed_at, placed_last}
use Rattle.iocm_offon_text.proofs.line.put_line.Goals as goal

pub returns-then-place-len : goal.returns-then-place-len
returns-then-place-len c =
    placed_at c.args.line c.args.lines.now.items c.as_slice.result.now c.put_at.new.lines.items c.place_of-place.result
    c.as_slice.ensures.value c.place_of-place.ensures
    (omega (arith, c.if-place-len.true, c.len.ensures, c.as_slice.ensures.len)) c.in_ok-put_at.ensures

pub returns : goal.returns
returns c =
    placed_last c.args.line c.args.lines.now.items c.as_slice.result.now c.push.new.self.items c.place_of-place.result
    c.as_slice.ensures.value c.place_of-place.ensures
    (omega (arith, c.if-place-len.false, c.len.ensures, c.as_slice.ensures.len)) c.in_ok-push.ensures.items

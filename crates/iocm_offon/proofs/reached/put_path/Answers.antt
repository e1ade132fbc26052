-- The path is in its place, or was there.
use Rattle.std.proofs.Common.{◌∙◌}
use Rattle.iocm_offon.proofs.InPlace.{already, inserted}
use Rattle.iocm_offon.proofs.reached.put_path.Goals as goal

pub returns-then-is_at : goal.returns-then-is_at
returns-then-is_at c = already c.args.path c.args.paths.now.items c.as_slice.result.now c.as_slice-2.result.now
    c.place_of-place.result c.as_slice.ensures.value c.as_slice-2.ensures.value c.place_of-place.ensures.place
    c.is_at.result (c.is_at.ensures c.args.path) c.if-is_at.true

pub returns : goal.returns
returns c = c.in_ok-insert.ensures.items
    ∙ inserted c.args.path c.args.paths.now.items c.as_slice.result.now c.as_slice-2.result.now
    c.place_of-place.result c.as_slice.ensures.value c.as_slice-2.ensures.value c.place_of-place.ensures.place
    c.is_at.result (c.is_at.ensures c.args.path) c.if-is_at.false

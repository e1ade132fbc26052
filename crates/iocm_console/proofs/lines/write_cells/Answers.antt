use Rattle.std.proofs.Common.{refl, ap, subst, ◌∙◌}
use Rattle.iocm_types.specs.declared.image.Image.{Image}
use Rattle.iocm_model.specs.Machine.Configuration.{lookup_of}
use Rattle.iocm_derive.specs.Sighted.{Sighted}
use Rattle.iocm_console.specs.Lines.{subchannel_at}
use Rattle.iocm_console.specs.Alike.{IsSeenAt}
use Rattle.iocm_console.proofs.Printing.{writes_as, writes_nothing, writes_then}
use Rattle.iocm_console.proofs.Rows.{image_lines_more, image_lines-nil}
use Rattle.iocm_console.proofs.lines.write_cells.Goals as goal

pub loop-place-init : goal.loop-place-init
loop-place-init g c = record {
  wrote = writes_nothing (image_lines-nil _ _ _ _);
  last = tt;
  same = refl;
  image = c.requires.lines.image;
  name = c.requires.lines.name;
}

pub loop-place-preserved : goal.loop-place-preserved
loop-place-preserved g c =
    let place = c.place-item.result in
    let seen = c.go_to.new.self in
    record {
      wrote = writes_as (writes_then c.loop-place.invariant.wrote c.in_ok-write_seen.ensures.written)
          (image_lines_more c.args.form c.args.sieve.now c.args.sight.now c.loop-place.sight c.loop-place.invariant.same
          c.args.cells.now c.loop-place.place-index place c.loop-place-test.true c.place-item.is
          (subchannel_at c.image-image.result place.cell) c.loop-place.lines.name seen
          (ap (λ (i : Image). subchannel_at i place.cell) c.image-image.ensures)
          c.loop-place.invariant.name c.go_to.ensures.seen);
      last = subst (λ (s : Sighted). IsSeenAt (lookup_of s.records) s.image seen place) c.loop-place.invariant.same
          c.go_to.ensures.seen;
      same = c.go_to.ensures.same ∙ c.loop-place.invariant.same;
      image = c.in_ok-write_seen.ensures.image ∙ c.loop-place.invariant.image;
      name = c.in_ok-write_seen.ensures.name ∙ c.loop-place.invariant.name;
    }

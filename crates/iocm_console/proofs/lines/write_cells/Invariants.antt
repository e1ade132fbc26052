-- The lines of the cells so far are written, and it is known what is seen at the last.
use Rattle.std.proofs.Common.{take, ◌≡◌}
use Rattle.iocm_model.specs.Machine.Configuration.{lookup_of}
use Rattle.iocm_console.specs.Lines.{celled, image_lines, image_of}
use Rattle.iocm_console.specs.Output.{Wrote}
use Rattle.iocm_console.specs.Alike.{IsSeen}
use Rattle.iocm_console.proofs.lines.write_cells.Given as goal

abbrev pub invariant-loop-place : goal.invariant-loop-place
invariant-loop-place g l = record {
  wrote : Wrote g.W.Write.contents l.initial.output l.output
      (image_lines l.form l.sieve (lookup_of l.initial.sight.records) l.initial.sight.image
      (celled (take l.place-index l.cells)));
  last : IsSeen (lookup_of l.initial.sight.records) l.initial.sight.image l.last l.seen;
  same : l.sight ≡ l.initial.sight;
  image : l.lines.image ≡ image_of l.initial.sight.image;
  name : l.lines.name ≡ l.initial.sight.image.name;
}

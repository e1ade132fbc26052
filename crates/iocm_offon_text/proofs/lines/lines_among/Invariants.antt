-- The lines so far, with those of the objects to come, are all.
use Rattle.std.proofs.Common.{◌≡◌, [], drop, map}
use Rattle.iocm_objects.specs.Runs.{run_of}
use Rattle.iocm_offon_text.specs.Lines.{lines_from}
use Rattle.iocm_offon_text.proofs.lines.lines_among.Given as goal

abbrev pub invariant-loop-object : goal.invariant-loop-object
invariant-loop-object l =
    lines_from l.images l.runs l.reasons l.lines.items (map run_of (drop l.object-index l.objects))
    ≡ lines_from l.images l.runs l.reasons [] (map run_of l.objects)

-- The lines so far.
use Rattle.std.proofs.Common.{◌≡◌, map, take}
use Rattle.iocm_objects.specs.Lines.{lines}
use Rattle.iocm_objects.specs.Runs.{run_of}
use Rattle.iocm_objects.proofs.lines.object_lines.Given as goal

abbrev pub invariant-loop-run : goal.invariant-loop-run
invariant-loop-run l = l.text.items ≡ lines (map run_of (take l.run-index l.runs))

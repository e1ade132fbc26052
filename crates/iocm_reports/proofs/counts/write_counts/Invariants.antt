-- The lines of the images so far are written, and the rows that are left give the others.
use Rattle.std.proofs.Common.{◌≡◌, ℕ, List, ◌++◌, length}
use Rattle.iocm_console.specs.Output.{Wrote}
use Rattle.iocm_reports.specs.Altered.{AreInOrder}
use Rattle.iocm_reports.specs.Counts.{count_lines}
use Rattle.iocm_reports.proofs.counts.write_counts.Given as goal

abbrev pub invariant-loop-row : goal.invariant-loop-row
invariant-loop-row g l = record {
  wrote : (written : List ℕ) × Wrote g.W.Write.contents l.initial.output l.output written
      × (written ++ count_lines l.form l.left ≡ count_lines l.form l.initial.left);
  order : AreInOrder l.left;
}

abbrev pub decreases-loop-row : goal.decreases-loop-row
decreases-loop-row g l = length l.left

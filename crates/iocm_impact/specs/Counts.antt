-- How many devices have which mark, by their runs.
use Rattle.std.specs.Prelude.{ℕ, if◌then◌else◌, List, sum_by}
use Rattle.std.specs.List.{zip}
use Rattle.iocm_plan.specs.declared.runs.DeviceRun.{DeviceRun}
use Rattle.iocm_impact.specs.Marks.{has}
use Rattle.iocm_impact.specs.declared.counts.Counts.{Counts}
use Rattle.iocm_impact.specs.declared.marks.Mark.{Mark}
use Rattle.iocm_impact.specs.declared.marks.Mark.TheVariants as mark
use Rattle.iocm_impact.specs.declared.marks.Marks.{Marks}

-- how many devices are in the runs that have a mark; the marks of each run are at its place
abbrev pub marked_count : Mark → DeviceRun × Marks → ℕ
marked_count m p = if has m p.1 then p.0.count else 0

abbrev pub count_with : Mark → List DeviceRun → List Marks → ℕ
count_with m rs ms = sum_by (marked_count m) (zip rs ms)

-- counts, mark by mark
abbrev pub counts_by : (Mark → ℕ) → Counts
counts_by count = record {
  gone = count mark.Gone;
  came = count mark.Came;
  changed = count mark.Changed;
  same = count mark.Same;
  lost = count mark.Lost;
  interrupted = count mark.Interrupted;
  one_path = count mark.OnePath;
  off_and_on = count mark.OffAndOn;
}

abbrev pub counts_of : List DeviceRun → List Marks → Counts
counts_of rs ms = counts_by (λ m. count_with m rs ms)

-- What was seen before the edits so far.
use Rattle.std.proofs.Common.{◌≡◌, take}
use Rattle.iocm_reports.specs.Gathered.{seen_before_edits}
use Rattle.iocm_reports.proofs.altered.list_seen.Given as goal

abbrev pub invariant-loop-touched : goal.invariant-loop-touched
invariant-loop-touched l = l.listed.items ≡ seen_before_edits (take l.touched-index l.performed)

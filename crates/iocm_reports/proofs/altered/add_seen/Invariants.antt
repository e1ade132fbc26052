-- What was seen at the subchannels of the changes so far.
use Rattle.std.proofs.Common.{◌≡◌, ◌++◌, take}
use Rattle.iocm_reports.specs.Gathered.{seen_before}
use Rattle.iocm_reports.proofs.altered.add_seen.Given as goal

abbrev pub invariant-loop-change : goal.invariant-loop-change
invariant-loop-change l = l.listed.items ≡ l.initial.listed.items ++ seen_before (take l.change-index l.changes)

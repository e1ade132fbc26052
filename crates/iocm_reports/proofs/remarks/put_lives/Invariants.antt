use Rattle.std.proofs.Common.{◌≡◌, ◌++◌, take}
use Rattle.std.specs.List.{flat_map}
use Rattle.iocm_reports.specs.Remarks.{live_line}
use Rattle.iocm_reports.proofs.remarks.put_lives.Given as goal

abbrev pub invariant-loop-row : goal.invariant-loop-row
invariant-loop-row l = l.text.items ≡ l.fn.text.items ++ flat_map live_line (take l.row-index l.lives)

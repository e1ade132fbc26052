-- The rows so far, with the one that is open and those to come, are all; there are as many devices.
use Rattle.std.proofs.Common.{◌≡◌, ◌<◌, ◌+◌, ◌^◌, ◌++◌, drop}
use Rattle.std.specs.Prelude.{sum_by}
use Rattle.iocm_impact.specs.Rows.{joined_from}
use Rattle.iocm_impact.specs.declared.row.Row.{Row}
use Rattle.iocm_impact.proofs.rows.put_joined.Given as goal

abbrev pub invariant-loop-next : goal.invariant-loop-next
invariant-loop-next l = record {
  few : l.row.run.count + sum_by (λ (r : Row). r.run.count) (drop l.next-index l.rows) < 2 ^ 64;
  left : l.joined.items ++ joined_from l.row (drop l.next-index l.rows)
      ≡ l.initial.joined.items ++ joined_from l.fn.first l.rows;
}

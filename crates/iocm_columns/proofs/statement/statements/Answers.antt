use Rattle.std.proofs.Common.{inr, ap}
use Rattle.iocm_columns.specs.Statements.{unless_fault}
use Rattle.iocm_columns.proofs.Grouping.{fault_here}
use Rattle.iocm_columns.proofs.statement.statements.Goals as goal

pub returns-in-Some : goal.returns-in-Some
returns-in-Some c =
    let rows = c.args.rows.now in
    inr (ap (λ fault. unless_fault fault rows)
    (fault_here rows c.loop-place.place c.index-rows-place.result c.split_at.result.1.now c.in-Some.fault
    c.loop-place-test.true c.index-rows-place.is c.split_at.ensures.back c.in-Some.ensures
    c.loop-place.invariant.faults))

use Rattle.std.proofs.Common.{◌≡◌, ◌<◌, ◌≤◌, ◌++◌, take, drop, length, map}
use Rattle.iocm_columns.specs.StatementCards.{first_continuation_fault}
use Rattle.iocm_columns.specs.Statements.{groups, statement_of}
use Rattle.iocm_columns.proofs.Grouping.{AreContinued}
use Rattle.iocm_columns.proofs.statement.statements.Given as goal

abbrev pub invariant-loop-place : goal.invariant-loop-place
invariant-loop-place l = record {
  faults : first_continuation_fault (drop l.place l.rows) ≡ first_continuation_fault l.rows;
  joined : l.statements.items ++ map statement_of (groups (drop l.first l.rows)) ≡ map statement_of (groups l.rows);
  begun : l.first ≤ l.place;
  continued : AreContinued (drop l.first (take l.place l.rows));
  goes_on : l.first < l.place → l.place < length l.rows;
}

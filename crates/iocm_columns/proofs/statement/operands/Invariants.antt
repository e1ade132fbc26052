use Rattle.std.proofs.Common.{◌≡◌, [], take}
use Rattle.std.specs.List.{fold}
use Rattle.iocm_columns.specs.Part.{part_after}
use Rattle.iocm_columns.specs.Statements.{with_continuation}
use Rattle.iocm_columns.proofs.statement.operands.Given as goal

abbrev pub invariant-loop-row : goal.invariant-loop-row
invariant-loop-row l = l.part ≡ fold with_continuation (part_after [] l.columns) (take l.row-index l.more)

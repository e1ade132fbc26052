-- What the rest gives, counted from here, is what the whole text gives.
use Rattle.std.proofs.Common.{◌≡◌, ◌≤◌, drop}
use Rattle.iocm_statements.specs.Nesting.{start}
use Rattle.iocm_statements.specs.Operands.{equals_from}
use Rattle.iocm_statements.proofs.Splitting.{further}
use Rattle.iocm_statements.proofs.operand.equals_at.Given as goal

abbrev pub invariant-loop-index : goal.invariant-loop-index
invariant-loop-index l = record {
  found : further l.index (equals_from l.nesting (drop l.index l.text)) ≡ equals_from start l.text;
  depth : l.nesting.depth ≤ l.index;
}

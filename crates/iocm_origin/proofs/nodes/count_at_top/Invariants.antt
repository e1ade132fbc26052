-- The nodes at the top so far, with those of the statements that are left, are all; and neither
-- these nor what is open are more than the statements so far.
use Rattle.std.proofs.Common.{◌≡◌, ◌≤◌, drop}
use Rattle.iocm_origin.specs.Nodes.{count_tops}
use Rattle.iocm_origin.proofs.nodes.count_at_top.Given as goal

abbrev pub invariant-loop-statement : goal.invariant-loop-statement
invariant-loop-statement l = record {
  rest : count_tops l.count l.open_nodes (drop l.statement-index l.statements) ≡ count_tops 0 0 l.statements;
  few : l.count ≤ l.statement-index;
  not_deep : l.open_nodes ≤ l.statement-index;
}

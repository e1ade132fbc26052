-- The node isn't one of those of the statements so far.
use Rattle.std.proofs.Common.{◌≡◌, drop}
use Rattle.iocm_origin.specs.Nodes.{line_among}
use Rattle.iocm_origin.proofs.nodes.line_among.Given as goal

abbrev pub invariant-loop-statement : goal.invariant-loop-statement
invariant-loop-statement l = line_among l.left (drop l.statement-index l.statements) ≡ line_among l.fn.node l.statements

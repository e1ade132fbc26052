-- The channel begins with the worker's pass, and the worker makes both operators.
use Rattle.std.proofs.Common.{rules}
use Rattle.iocm_queue.proofs.Steps.{begins, makes}
use Rattle.iocm_queue.proofs.opening.queue.Goals as goal

pub bounded_with-requires-clause-rule : goal.bounded_with-requires-clause-rule
bounded_with-requires-clause-rule g c = begins

pub another-requires-clause-rule : goal.another-requires-clause-rule
another-requires-clause-rule g c = makes _ _ (search rules)

pub another-requires-2-clause-rule : goal.another-requires-2-clause-rule
another-requires-2-clause-rule g c = makes _ _ (search rules)

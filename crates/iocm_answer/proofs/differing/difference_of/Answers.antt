-- The edits are those of the difference.
use Rattle.std.proofs.Common.{◌∙◌}
use Rattle.iocm_answer.proofs.differing.difference_of.Goals as goal

pub returns-clause-text : goal.returns-clause-text
returns-clause-text c = c.in_ok-text.ensures c.args.new.now.records (c.deref.ensures.value ∙ c.in_ok-actions.ensures)

-- The two parts of the law.
use Rattle.iocm_statements.proofs.Saying.{finds_operand, finds_no_other_operand}
use Rattle.iocm_statements.proofs.laws.operands_are_what_their_texts_say.Goals as goal

pub returns : goal.returns
returns c = record { found = finds_operand; only = finds_no_other_operand }

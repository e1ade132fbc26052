-- The law is proved of the definitions.
use Rattle.iocm_runs.proofs.UndoAnswers as proof
use Rattle.iocm_runs.proofs.answers.undo_is_answered_in_order.Goals as goal

pub returns : goal.returns
returns c = proof.undo_is_answered_in_order

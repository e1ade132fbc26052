-- The law is proved of the definitions.
use Rattle.iocm_runs.proofs.RedoAnswers as proof
use Rattle.iocm_runs.proofs.answers.redo_is_answered_in_order.Goals as goal

pub returns : goal.returns
returns c = proof.redo_is_answered_in_order

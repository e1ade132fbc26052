-- The law is proved of the definitions, by what happens between an edit and its way back.
use Rattle.iocm_stage.proofs.Stages as proof
use Rattle.iocm_stage.proofs.laws.steps_elsewhere_pass_a_stage.Goals as goal

pub returns : goal.returns
returns c = proof.steps_elsewhere_pass_a_stage c.what_happens_between.ensures.still

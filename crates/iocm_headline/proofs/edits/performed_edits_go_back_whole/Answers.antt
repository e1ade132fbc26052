-- The law is proved of the definitions.
use Rattle.iocm_headline.proofs.WayBack as proof
use Rattle.iocm_headline.proofs.edits.performed_edits_go_back_whole.Goals as goal

pub returns : goal.returns
returns c = proof.performed_edits_go_back_whole

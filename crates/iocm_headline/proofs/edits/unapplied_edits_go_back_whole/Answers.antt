-- The law is proved of the definitions.
use Rattle.iocm_headline.proofs.WayBack as proof
use Rattle.iocm_headline.proofs.edits.unapplied_edits_go_back_whole.Goals as goal

pub returns : goal.returns
returns c = proof.unapplied_edits_go_back_whole

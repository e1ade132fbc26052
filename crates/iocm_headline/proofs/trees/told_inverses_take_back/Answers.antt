-- The law is proved of the definitions.
use Rattle.iocm_headline.proofs.Inverses as proof
use Rattle.iocm_headline.proofs.trees.told_inverses_take_back.Goals as goal

pub returns : goal.returns
returns c = proof.told_inverses_take_back

-- The law is proved of the definitions.
use Rattle.iocm_rules.proofs.NearEdits as edits
use Rattle.iocm_rules.proofs.laws.near_edits_keep_the_rest.Goals as goal

pub returns : goal.returns
returns c = edits.near_edits_keep_the_rest

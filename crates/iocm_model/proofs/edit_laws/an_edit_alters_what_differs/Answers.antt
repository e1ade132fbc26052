-- The laws are proved of the definitions.
use Rattle.iocm_model.proofs.Change.EditsGoBack.{alters_what_differs, keeps_the_others}
use Rattle.iocm_model.proofs.Change.AlteredLives.{altered_have_their_lives}
use Rattle.iocm_model.proofs.edit_laws.an_edit_alters_what_differs.Goals as goal

pub returns-clause-altered : goal.returns-clause-altered
returns-clause-altered c = alters_what_differs

pub returns-clause-others : goal.returns-clause-others
returns-clause-others c = keeps_the_others

pub returns-clause-lives : goal.returns-clause-lives
returns-clause-lives c = altered_have_their_lives

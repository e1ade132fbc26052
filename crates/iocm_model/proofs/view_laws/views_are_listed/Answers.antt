-- The law is proved of the definitions.
use Rattle.iocm_model.proofs.Machine.Views.{views_listed}
use Rattle.iocm_model.proofs.view_laws.views_are_listed.Goals as goal

pub returns : goal.returns
returns c = views_listed

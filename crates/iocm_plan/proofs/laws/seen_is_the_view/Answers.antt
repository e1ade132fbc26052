-- What is seen is the view.
use Rattle.iocm_plan.proofs.SeenViews
use Rattle.iocm_plan.proofs.laws.seen_is_the_view.Goals as goal

pub returns : goal.returns
returns c = SeenViews.seen_is_the_view

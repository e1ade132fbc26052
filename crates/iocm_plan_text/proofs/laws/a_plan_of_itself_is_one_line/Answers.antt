use Rattle.iocm_plan_text.proofs.OfItself.{of_itself}
use Rattle.iocm_plan_text.proofs.laws.a_plan_of_itself_is_one_line.Goals as goal

pub returns : goal.returns
returns c = of_itself

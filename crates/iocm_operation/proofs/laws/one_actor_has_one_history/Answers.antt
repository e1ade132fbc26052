use Rattle.iocm_operation.proofs.OneHistory.{one_history}
use Rattle.iocm_operation.proofs.laws.one_actor_has_one_history.Goals as goal

pub returns : goal.returns
returns c core ts rounds o p new ones one two had_one had_two =
    one_history core ts rounds o p new ones one two had_one had_two

use Rattle.iocm_operation.proofs.OneOrder.{one_order}
use Rattle.iocm_operation.proofs.laws.one_actor_has_one_order.Goals as goal

pub returns : goal.returns
returns c core ts rounds o ones op = one_order core ts rounds o ones op

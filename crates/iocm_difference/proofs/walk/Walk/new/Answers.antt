-- The row that is taken out ahead is still left.
use Rattle.iocm_difference.proofs.Steps.{ahead}
use Rattle.iocm_difference.proofs.walk.Walk.new.Goals as goal

pub returns : goal.returns
returns g c = ahead c.args.rows c.next-next.new.self c.next-next.result c.next-next.ensures.steps

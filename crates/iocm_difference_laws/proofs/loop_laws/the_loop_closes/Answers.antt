-- The laws are proved of the definitions.
use Rattle.iocm_difference_laws.proofs.Loop as loop
use Rattle.iocm_difference_laws.proofs.Printed.{diff_prints_the_difference}
use Rattle.iocm_difference_laws.proofs.loop_laws.the_loop_closes.Goals as goal

pub returns-clause-told : goal.returns-clause-told
returns-clause-told c = diff_prints_the_difference

pub returns-clause-closes : goal.returns-clause-closes
returns-clause-closes c = loop.the_loop_closes

-- The laws are proved of the definitions.
use Rattle.iocm_difference.proofs.Differences.{difference_leads}
use Rattle.iocm_difference.proofs.Leading.{any_order_leads}
use Rattle.iocm_difference.proofs.laws.the_difference_leads_in_any_order.Goals as goal

pub returns-clause-any : goal.returns-clause-any
returns-clause-any c = any_order_leads

pub returns-clause-difference : goal.returns-clause-difference
returns-clause-difference c = difference_leads

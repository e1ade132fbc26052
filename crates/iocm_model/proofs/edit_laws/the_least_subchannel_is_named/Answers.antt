-- The laws are proved of the definitions.
use Rattle.iocm_model.proofs.Change.LeastNotQuiet.{names_the_least, names_none_where_quiet}
use Rattle.iocm_model.proofs.Change.Refusals.{refusal_names_the_least}
use Rattle.iocm_model.proofs.edit_laws.the_least_subchannel_is_named.Goals as goal

pub returns-clause-least : goal.returns-clause-least
returns-clause-least c = names_the_least

pub returns-clause-none : goal.returns-clause-none
returns-clause-none c = names_none_where_quiet

pub returns-clause-refusal : goal.returns-clause-refusal
returns-clause-refusal c = refusal_names_the_least

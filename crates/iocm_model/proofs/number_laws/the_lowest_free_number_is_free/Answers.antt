use Rattle.iocm_model.proofs.Numbers.Lowest.{lowest_free_is_free, lowest_free_is_found}
use Rattle.iocm_model.proofs.number_laws.the_lowest_free_number_is_free.Goals as goal

pub returns-clause-free : goal.returns-clause-free
returns-clause-free c = lowest_free_is_free

pub returns-clause-found : goal.returns-clause-found
returns-clause-found c = lowest_free_is_found

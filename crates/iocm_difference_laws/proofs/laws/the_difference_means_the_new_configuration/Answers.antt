-- The laws are proved of the definitions.
use Rattle.iocm_difference_laws.proofs.Meaning.{difference_means, reaches_the_new}
use Rattle.iocm_difference_laws.proofs.Rows.{one_row_is_a_tree}
use Rattle.iocm_difference_laws.proofs.laws.the_difference_means_the_new_configuration.Goals as goal

pub returns-clause-means : goal.returns-clause-means
returns-clause-means c = difference_means

pub returns-clause-reaches : goal.returns-clause-reaches
returns-clause-reaches c = reaches_the_new

pub returns-clause-trees : goal.returns-clause-trees
returns-clause-trees c = one_row_is_a_tree

-- The laws are proved of the definitions.
use Rattle.iocm_difference_laws.proofs.Again.{difference_is_read_again_as_one, text_means_the_difference}
use Rattle.iocm_difference_laws.proofs.Given.{differences_are_given}
use Rattle.iocm_difference_laws.proofs.laws.the_text_means_the_difference.Goals as goal

pub returns-clause-given : goal.returns-clause-given
returns-clause-given c = differences_are_given

pub returns-clause-again : goal.returns-clause-again
returns-clause-again c = difference_is_read_again_as_one

pub returns-clause-means : goal.returns-clause-means
returns-clause-means c = text_means_the_difference

-- The laws are proved of the definitions.
use Rattle.iocm_difference_laws.proofs.Online.{are_online_by_their_lists, deck_of_a_deck_says_all}
use Rattle.iocm_difference_laws.proofs.loop_laws.a_deck_says_all.Goals as goal

pub returns-clause-lists : goal.returns-clause-lists
returns-clause-lists c = are_online_by_their_lists

pub returns-clause-all : goal.returns-clause-all
returns-clause-all c = deck_of_a_deck_says_all

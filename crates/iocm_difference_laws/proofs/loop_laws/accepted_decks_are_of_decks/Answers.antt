-- The laws are proved of the definitions.
use Rattle.iocm_difference_laws.proofs.AcceptedDecks.{accepted_decks_are_configurations_of_decks}
use Rattle.iocm_difference_laws.proofs.Printed.{check_accepts_them}
use Rattle.iocm_difference_laws.proofs.loop_laws.accepted_decks_are_of_decks.Goals as goal

pub returns-clause-accepted : goal.returns-clause-accepted
returns-clause-accepted c = check_accepts_them

pub returns-clause-given : goal.returns-clause-given
returns-clause-given c = accepted_decks_are_configurations_of_decks

use Rattle.iocm_command.proofs.Plain.{applies_are_meant, decks_are_meant}
use Rattle.iocm_command.proofs.PlainRun.{runs_are_meant}
use Rattle.iocm_command.proofs.laws.plain_words_are_understood.Goals as goal

pub returns : goal.returns
returns c = record { decks = decks_are_meant; applies = applies_are_meant; runs = runs_are_meant }

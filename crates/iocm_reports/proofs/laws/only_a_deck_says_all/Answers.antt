use Rattle.iocm_reports.proofs.ListedPairs.{deck_says_all}
use Rattle.iocm_reports.proofs.ListedPairs as told
use Rattle.iocm_reports.proofs.laws.only_a_deck_says_all.Goals as goal

pub returns : goal.returns
returns c = record { all = deck_says_all; only = told.only_a_deck_says_all }

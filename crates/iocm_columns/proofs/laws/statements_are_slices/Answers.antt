use Rattle.iocm_columns.proofs.Relating.{deck_found, deck_only}
use Rattle.iocm_columns.proofs.laws.statements_are_slices.Goals as goal

pub returns : goal.returns
returns c = record { found = deck_found; only = deck_only }

use Rattle.std.proofs.Common.{refl}
use Rattle.iocm_tree_reader.specs.Reading.{read_from}
use Rattle.iocm_tree_reader.proofs.examples.worked_decks_are_read.Goals as goal

pub returns : goal.returns
unfolding read_from
returns c = record { empty = refl; one = refl; nested = refl; missing = refl; unmatched = refl; verb = refl }

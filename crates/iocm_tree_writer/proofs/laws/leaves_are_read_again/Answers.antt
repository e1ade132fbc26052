use Rattle.iocm_tree_writer.proofs.OfDecks.{gives_actions}
use Rattle.iocm_tree_writer.proofs.Whole.{leaves_are_read_again}
use Rattle.iocm_tree_writer.proofs.laws.leaves_are_read_again.Goals as goal

pub returns : goal.returns
returns c = record { leaf = leaves_are_read_again; given = gives_actions }

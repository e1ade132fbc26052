use Rattle.iocm_tree_writer.proofs.Whole.{gives_trees, read_trees_are_read_again, trees_are_read_again}
use Rattle.iocm_tree_writer.proofs.laws.trees_are_read_again.Goals as goal

pub returns : goal.returns
returns c = record { given = gives_trees; tree = trees_are_read_again; same = read_trees_are_read_again }

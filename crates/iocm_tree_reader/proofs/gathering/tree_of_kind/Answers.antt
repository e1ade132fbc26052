use Rattle.iocm_tree.proofs.Trees.{tree-Row, tree-Group, tree-Choose}
use Rattle.iocm_tree_reader.proofs.gathering.tree_of_kind.Goals as goal

pub returns-in-Row : goal.returns-in-Row
returns-in-Row g c = rw c.in-Row.is (tree-Row _)

pub returns-in-Group : goal.returns-in-Group
returns-in-Group g c = rw c.in-Group.is (tree-Group _)

pub returns-in-Choose : goal.returns-in-Choose
returns-in-Choose g c = rw c.in-Choose.is (tree-Choose _)

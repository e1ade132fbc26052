use Rattle.iocm_tree.specs.Trees.{parts_of}
use Rattle.iocm_tree.specs.LettingGo.{work_in}
use Rattle.iocm_tree.proofs.tree.Tree.drop.Given as goal

abbrev pub decreases-loop-tree : goal.decreases-loop-tree
decreases-loop-tree g l = work_in (parts_of l.parts.items)

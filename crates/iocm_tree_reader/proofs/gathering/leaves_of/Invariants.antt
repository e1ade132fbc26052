use Rattle.std.proofs.Common.{◌≡◌, map}
use Rattle.iocm_tree.specs.Trees.{leaf}
use Rattle.iocm_tree_reader.specs.Views.{nodes_seen}
use Rattle.iocm_tree_reader.proofs.gathering.leaves_of.Given as goal

abbrev pub invariant-loop-edit : goal.invariant-loop-edit
invariant-loop-edit g l = nodes_seen l.nodes ≡ map leaf l.yielded

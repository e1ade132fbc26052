-- How much there is to do while a tree is let go.
use Rattle.std.specs.Prelude.{ℕ, ◌+◌, ◌*◌}
use Rattle.iocm_model.specs.Change.Tree.{nodes_in}
use Rattle.iocm_tree.specs.Trees.{CarriedTree, CarriedParts, leaf, row, group, choose, none, part, plain_parts}

abbrev mutual
  -- the work that is left: a node counts once that is reached by first parts alone, any other one
  -- twice, since it may be put under a first part
  pub work_of : CarriedTree → ℕ
  work_of (leaf c) = 1
  work_of (row ps) = work_in ps + 1
  work_of (group ps) = work_in ps + 1
  work_of (choose ps) = work_in ps + 1

  pub work_in : CarriedParts → ℕ
  work_in none = 0
  work_in (part p ps) = work_of p + 2 * nodes_in (plain_parts ps)

-- A change tree in reverse order.
use Rattle.iocm_tree.specs.Trees.{CarriedTree, CarriedParts, leaf, row, group, choose, none, part}

abbrev mutual
  -- Rows and Groups in reverse order, all the way down; the parts of a Choose stay in their order,
  -- and are reversed inside
  pub reversed : CarriedTree → CarriedTree
  reversed (leaf c) = leaf c
  reversed (row ps) = row (reversed_before ps none)
  reversed (group ps) = group (reversed_before ps none)
  reversed (choose ps) = choose (each_reversed ps)

  -- parts in reverse order, each of them reversed, before others
  pub reversed_before : CarriedParts → CarriedParts → CarriedParts
  reversed_before none others = others
  reversed_before (part p ps) others = reversed_before ps (part (reversed p) others)

  -- parts in their order, each of them reversed
  pub each_reversed : CarriedParts → CarriedParts
  each_reversed none = none
  each_reversed (part p ps) = part (reversed p) (each_reversed ps)

-- A change tree in memory: as edits with their room, and as the model's change tree.
use Rattle.std.specs.Prelude.{Option, None, Some, List, [], ◌∷◌, map}
use Rattle.iocm_model.specs.Change.Tree as model
use Rattle.iocm_tree.specs.Carried.{Carried}
use Rattle.iocm_tree.specs.declared.tree.Tree.{Tree, fold-Tree}
use Rattle.iocm_tree.specs.declared.tree.Tree.TheOpen.{Tree-F}

mutual
  -- a change tree whose leaves are edits in memory, each with its room for the way back
  pub data CarriedTree : Type 0 where
    leaf : Carried → CarriedTree
    row : CarriedParts → CarriedTree
    group : CarriedParts → CarriedTree
    choose : CarriedParts → CarriedTree

  -- the parts of a node, in order
  pub data CarriedParts : Type 0 where
    none : CarriedParts
    part : CarriedTree → CarriedParts → CarriedParts

abbrev mutual
  -- the model's change tree: the same, without the room
  pub plain_tree : CarriedTree → model.ChangeTree
  plain_tree (leaf c) = model.leaf c.edit
  plain_tree (row ps) = model.row (plain_parts ps)
  plain_tree (group ps) = model.group (plain_parts ps)
  plain_tree (choose ps) = model.choose (plain_parts ps)

  pub plain_parts : CarriedParts → model.Parts
  plain_parts none = model.none
  plain_parts (part p ps) = model.part (plain_tree p) (plain_parts ps)

-- trees as the parts of a node
abbrev pub parts_from : List CarriedTree → CarriedParts
parts_from [] = none
parts_from (p ∷ ps) = part p (parts_from ps)

-- one node in memory, whose parts are seen as trees already
abbrev pub node_of : {A : Type 0} → Tree-F A CarriedTree → CarriedTree
node_of (Tree-F.Leaf e) = leaf e
node_of (Tree-F.Row ps) = row (parts_from ps.items)
node_of (Tree-F.Group ps) = group (parts_from ps.items)
node_of (Tree-F.Choose ps) = choose (parts_from ps.items)

-- the tree that stands in memory, whatever its allocator
abbrev pub tree_of : {A : Type 0} → Tree A → CarriedTree
tree_of {A} = fold-Tree A CarriedTree node_of

-- the same as the model's change tree
abbrev pub plain : {A : Type 0} → Tree A → model.ChangeTree
plain t = plain_tree (tree_of t)

-- the trees that stand in memory as the parts of a node
abbrev pub parts_of : {A : Type 0} → List (Tree A) → CarriedParts
parts_of trees = parts_from (map tree_of trees)

-- the edit of a leaf
abbrev pub edit_in : CarriedTree → Option Carried
edit_in (leaf c) = Some c
edit_in (row ps) = None
edit_in (group ps) = None
edit_in (choose ps) = None

-- the parts of a node that is no leaf
abbrev pub parts_in : CarriedTree → Option CarriedParts
parts_in (leaf c) = None
parts_in (row ps) = Some ps
parts_in (group ps) = Some ps
parts_in (choose ps) = Some ps

-- Change trees: edits in Rows, Groups and Chooses.
use Rattle.std.specs.Prelude.{ℕ, ◌+◌, max, ◌==◌, if◌then◌else◌}
use Rattle.iocm_model.specs.Change.Edit.{Edit}

mutual
  -- a tree: one edit; parts in order, all or none; the same, after which the rules hold; the
  -- first part that is accepted and after which they hold
  pub data ChangeTree : Type 0 where
    leaf : Edit → ChangeTree
    row : Parts → ChangeTree
    group : Parts → ChangeTree
    choose : Parts → ChangeTree

  -- the parts of a node, in order
  pub data Parts : Type 0 where
    none : Parts
    part : ChangeTree → Parts → Parts

-- a count, or 1 for a node without parts
abbrev pub or_one : ℕ → ℕ
or_one n = if n == 0 then 1 else n

abbrev mutual
  -- the leaves of a tree; a node without parts counts as one
  pub leaves_of : ChangeTree → ℕ
  leaves_of (leaf e) = 1
  leaves_of (row ps) = or_one (leaves_in ps)
  leaves_of (group ps) = or_one (leaves_in ps)
  leaves_of (choose ps) = or_one (leaves_in ps)

  pub leaves_in : Parts → ℕ
  leaves_in none = 0
  leaves_in (part p ps) = leaves_of p + leaves_in ps

abbrev mutual
  -- the depth of a tree; a leaf and a node without parts have 1
  pub depth_of : ChangeTree → ℕ
  depth_of (leaf e) = 1
  depth_of (row ps) = depth_in ps + 1
  depth_of (group ps) = depth_in ps + 1
  depth_of (choose ps) = depth_in ps + 1

  pub depth_in : Parts → ℕ
  depth_in none = 0
  depth_in (part p ps) = max (depth_of p) (depth_in ps)

abbrev mutual
  -- the nodes of a tree, numbered in preorder from 0
  pub nodes_of : ChangeTree → ℕ
  nodes_of (leaf e) = 1
  nodes_of (row ps) = nodes_in ps + 1
  nodes_of (group ps) = nodes_in ps + 1
  nodes_of (choose ps) = nodes_in ps + 1

  pub nodes_in : Parts → ℕ
  nodes_in none = 0
  nodes_in (part p ps) = nodes_of p + nodes_in ps

-- the most depth (C1) and the most leaves (C2) of a tree
abbrev pub most_depth : ℕ
most_depth = 32

abbrev pub most_leaves : ℕ
most_leaves = 4096

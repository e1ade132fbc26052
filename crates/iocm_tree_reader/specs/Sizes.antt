-- How deep trees are and how many leaves they have, counted up to the greatest number of a field.
-- The words are own.
use Rattle.std.specs.Prelude.{ℕ, ◌+◌, ◌==◌, nat_lt, max, min, if◌then◌else◌, Option, None, Some, List, fold, length}
use Rattle.iocm_types.specs.declared.rule.Rule.{Rule}
use Rattle.iocm_types.specs.declared.rule.Rule.TheVariants.{C1, C2}
use Rattle.iocm_model.specs.Change.Tree.{depth_of, depth_in, leaves_of, leaves_in, or_one, most_depth, most_leaves}
use Rattle.iocm_tree.specs.Trees.{CarriedTree, parts_from, plain_tree, plain_parts}
use Rattle.iocm_tree_reader.specs.declared.size.Size.{Size}
use Rattle.iocm_tree_reader.specs.Reading.{OpenNode}

-- the greatest number of a field
abbrev pub most : ℕ
most = 4294967295

-- the size of a tree
abbrev pub size_of : CarriedTree → Size
size_of t = record { depth = min most (depth_of (plain_tree t)); leaves = min most (leaves_of (plain_tree t)) }

-- the size of trees beside each other; none has depth 0 and no leaves
abbrev pub size_among : List CarriedTree → Size
size_among ts = record {
  depth = min most (depth_in (plain_parts (parts_from ts)));
  leaves = min most (leaves_in (plain_parts (parts_from ts)));
}

-- of trees beside each other
abbrev pub beside : Size → Size → Size
beside a b = record { depth = max a.depth b.depth; leaves = min most (a.leaves + b.leaves) }

-- of a node whose parts have this size
abbrev pub inside : Size → Size
inside a = record { depth = min most (a.depth + 1); leaves = or_one a.leaves }

-- of a node without parts
abbrev pub size_of_empty : Size
size_of_empty = record { depth = 1; leaves = 1 }

-- of so many leaves beside each other, and of what they give
abbrev pub size_of_leaves : ℕ → Size
size_of_leaves n = record { depth = min 1 n; leaves = min most n }

abbrev pub size_of_edits : ℕ → Size
size_of_edits n = if n == 1 then size_of_leaves n else inside (size_of_leaves n)

-- of what is open, where a node of a size is put into it
abbrev pub around : Size → OpenNode → Size
around size o = inside (beside (size_among o.parts) size)

-- of the tree so far, where a node of a size is put into it
abbrev pub size_with : Size → List CarriedTree → List OpenNode → Size
size_with size top os =
    if length top == 0 then fold around size os else inside (beside (size_among top) (fold around size os))

-- the limit that a size is over
abbrev pub over : Size → Option Rule
over size = if nat_lt most_depth size.depth then Some C1 else if nat_lt most_leaves size.leaves then Some C2 else None

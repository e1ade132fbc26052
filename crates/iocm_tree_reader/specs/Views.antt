-- What the values in memory mean, whatever their allocator.
use Rattle.std.specs.Prelude.{List, map, reverse}
use Rattle.iocm_tree.specs.Trees.{CarriedTree, tree_of}
use Rattle.iocm_tree_reader.specs.declared.node.Node.{Node}
use Rattle.iocm_tree_reader.specs.declared.nodes.Nodes.{Nodes}
use Rattle.iocm_tree_reader.specs.declared.reading.OpenNode as code
use Rattle.iocm_tree_reader.specs.declared.reading.Reading as reading
use Rattle.iocm_tree_reader.specs.Reading.{OpenNode, Reading}

-- the tree of a node
abbrev pub node_seen : {A : Type 0} → Node A → CarriedTree
node_seen n = tree_of n.tree

-- trees beside each other
abbrev pub nodes_seen : {A : Type 0} → Nodes A → List CarriedTree
nodes_seen n = map tree_of n.trees.items

-- an open node
abbrev pub open_seen : {A : Type 0} → code.OpenNode A → OpenNode
open_seen o = record { kind = o.kind; line = o.line; parts = nodes_seen o.parts }

-- open nodes, of which the last in memory is the innermost
abbrev pub stack_seen : {A : Type 0} → List (code.OpenNode A) → List OpenNode
stack_seen os = reverse (map open_seen os)

-- what was read so far
abbrev pub seen : {A : Type 0} → reading.Reading A → Reading
seen r = record { top = nodes_seen r.top; open_nodes = stack_seen r.stack.items }

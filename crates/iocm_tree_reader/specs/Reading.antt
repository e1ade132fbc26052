-- The tree of a change deck. Its statements are taken in order; what is open stands on a stack.
use Rattle.std.specs.Prelude.{ℕ, nat_lt, if◌then◌else◌, Option, None, Some, List, [], ◌∷◌, ◌++◌, fold, Result, Ok, Err}
use Rattle.iocm_types.specs.declared.fault.Fault.{Fault}
use Rattle.iocm_types.specs.declared.rule.Rule.{Rule}
use Rattle.iocm_types.specs.declared.rule.Rule.TheVariants.{C1, C2, S9}
use Rattle.iocm_types.specs.Fault.{◌>>=◌, at, or_fault}
use Rattle.iocm_model.specs.Change.Tree.{depth_of, leaves_of, most_depth, most_leaves}
use Rattle.iocm_statements.specs.declared.operation.Operation.{Operation}
use Rattle.iocm_statements.specs.declared.operation.Operation.TheVariants as operation
use Rattle.iocm_statements.specs.declared.statement.Statement.{Statement}
use Rattle.iocm_tree.specs.Trees.{CarriedTree, row, group, choose, parts_from, plain_tree}
use Rattle.iocm_tree_reader.specs.declared.kind.NodeKind.{NodeKind}
use Rattle.iocm_tree_reader.specs.declared.kind.NodeKind.TheVariants.{Row, Group, Choose}
use Rattle.iocm_tree_reader.specs.Leaves.{edits_of, node_of_edits, whole}

-- an open node: what it is, the line of its statement, and its parts so far
pub record OpenNode : Type 0 where
  pub kind : NodeKind
  pub line : ℕ
  pub parts : List CarriedTree

-- what was read so far: the nodes at the top that are closed, and the open nodes, the innermost
-- first
pub record Reading : Type 0 where
  pub top : List CarriedTree
  pub open_nodes : List OpenNode

-- a node of these parts
abbrev pub node_of_kind : NodeKind → List CarriedTree → CarriedTree
node_of_kind Row parts = row (parts_from parts)
node_of_kind Group parts = group (parts_from parts)
node_of_kind Choose parts = choose (parts_from parts)

-- a node goes behind the parts of the innermost open node, or to the top where none is open
abbrev pub with_node : CarriedTree → List CarriedTree → List OpenNode → Reading
with_node node top [] = record { top = top ++ node ∷ []; open_nodes = [] }
with_node node top (o ∷ os) = record { top = top; open_nodes = record o { parts = o.parts ++ node ∷ [] } ∷ os }

-- a node is opened
abbrev pub opened : NodeKind → ℕ → Reading → Reading
opened kind line r = record { top = r.top; open_nodes = record { kind = kind; line = line; parts = [] } ∷ r.open_nodes }

-- the innermost open node is closed, if one is open
abbrev pub closed : List CarriedTree → List OpenNode → Option Reading
closed top [] = None
closed top (o ∷ os) = Some (with_node (node_of_kind o.kind o.parts) top os)

-- END closes the innermost open node; where none is open, S9
abbrev pub ended : ℕ → List CarriedTree → List OpenNode → Result Reading Fault
ended line top os = or_fault (at S9 line) (closed top os)

-- a statement that gives leaves puts them where they belong
abbrev pub with_edits : Statement → List CarriedTree → List OpenNode → Result Reading Fault
with_edits s top os = edits_of s >>= λ edits. Ok (with_node (node_of_edits edits) top os)

-- what a statement does
abbrev pub done_by : Operation → Statement → Reading → Result Reading Fault
done_by operation.Row s r = Ok (opened Row s.line r)
done_by operation.Group s r = Ok (opened Group s.line r)
done_by operation.Choose s r = Ok (opened Choose s.line r)
done_by operation.End s r = ended s.line r.top r.open_nodes
done_by _ s r = with_edits s r.top r.open_nodes

-- the node that an open node would be, closed behind a last part
abbrev pub closed_behind : List CarriedTree → OpenNode → List CarriedTree
closed_behind inner o = node_of_kind o.kind (o.parts ++ inner) ∷ []

-- the tree so far, as if all that is open were closed now: one node at the top is the tree, none or
-- several are the parts of a Row
abbrev pub tree_so_far : Reading → CarriedTree
tree_so_far r = whole (r.top ++ fold closed_behind [] r.open_nodes)

-- the limit that a tree is over: C1 for the depth, else C2 for the leaves
abbrev pub over_limit : CarriedTree → Option Rule
over_limit t =
    if nat_lt most_depth (depth_of (plain_tree t)) then Some C1
    else if nat_lt most_leaves (leaves_of (plain_tree t)) then Some C2
    else None

abbrev pub unless_over : Option Rule → ℕ → Reading → Result Reading Fault
unless_over None line r = Ok r
unless_over (Some rule) line r = Err (at rule line)

-- what was read, if the tree so far is within the limits
abbrev pub within_limits : ℕ → Reading → Result Reading Fault
within_limits line r = unless_over (over_limit (tree_so_far r)) line r

abbrev pub limited : ℕ → Result Reading Fault → Result Reading Fault
limited line read = read >>= within_limits line

-- what was read, with a further statement, or its first fault: S10, S3, S5, S4, S9, C1, C2
abbrev pub read_next : Reading → Statement → Result Reading Fault
read_next r s = limited s.line (done_by s.operation s r)

-- at the end nothing may be open: S9 has the line of the innermost open node
abbrev pub finished : List CarriedTree → List OpenNode → Result CarriedTree Fault
finished top [] = Ok (whole top)
finished top (o ∷ os) = Err (at S9 o.line)

-- the tree of further statements behind what was read so far
unfoldable pub read_from : Reading → List Statement → Result CarriedTree Fault
read_from r [] = finished r.top r.open_nodes
read_from r (s ∷ ss) = read_next r s >>= λ q. read_from q ss

-- before the first statement
abbrev pub nothing_read : Reading
nothing_read = record { top = []; open_nodes = [] }

-- the tree of a change deck, or the fault of the first statement that has one
abbrev pub read_tree : List Statement → Result CarriedTree Fault
read_tree ss = read_from nothing_read ss

-- The line of a change deck that a node of its tree comes from, and what it promises. Nodes are
-- numbered from 0 in the order of the text, each before its parts.
use Rattle.std.specs.Prelude.{◌≡◌, ◌≤◌, ℕ, ◌+◌, ◌-◌, ◌==◌, if◌then◌else◌, Option, None, Some, Result, Ok, Err}
use Rattle.std.specs.Prelude.{List, [], ◌∷◌, ◌++◌, get_or, length, map, take}
use Rattle.std.specs.List.{flat_map, slice_get}
use Rattle.iocm_types.specs.declared.fault.Fault.{Fault}
use Rattle.iocm_model.specs.Change.Tree.{nodes_of}
use Rattle.iocm_statements.specs.declared.operation.Operation.{Operation}
use Rattle.iocm_statements.specs.declared.statement.Statement.{Statement}
use Rattle.iocm_statements.specs.declared.operation.Operation.TheVariants as operation
use Rattle.iocm_tree.specs.Carried.{Carried}
use Rattle.iocm_tree.specs.Trees.{CarriedTree, CarriedParts, leaf, row, group, choose, none, part, plain_tree}
use Rattle.iocm_tree_reader.specs.declared.kind.NodeKind.{NodeKind}
use Rattle.iocm_tree_reader.specs.declared.kind.NodeKind.TheVariants.{Row, Group, Choose}
use Rattle.iocm_tree_reader.specs.Leaves.{edits_of, node_of_edits}
use Rattle.iocm_tree_reader.specs.Reading.{read_tree}

-- ---- nodes without their parts

pub data Head : Type 0 where
  a_leaf : Carried → Head
  a_node : NodeKind → Head

abbrev mutual
  -- the nodes of a tree, each before its parts
  pub heads_of : CarriedTree → List Head
  heads_of (leaf e) = a_leaf e ∷ []
  heads_of (row ps) = a_node Row ∷ heads_in ps
  heads_of (group ps) = a_node Group ∷ heads_in ps
  heads_of (choose ps) = a_node Choose ∷ heads_in ps

  pub heads_in : CarriedParts → List Head
  heads_in none = []
  heads_in (part p ps) = heads_of p ++ heads_in ps

-- those of a statement's edits; with a fault there are none
abbrev pub heads_if_given : Result (List Carried) Fault → List Head
heads_if_given (Ok edits) = heads_of (node_of_edits edits)
heads_if_given (Err e) = []

-- those that a statement of this operation gives: ROW, GROUP and CHOOSE the one that they open, END
-- none
abbrev pub heads_by : Operation → Statement → List Head
heads_by operation.Row s = a_node Row ∷ []
heads_by operation.Group s = a_node Group ∷ []
heads_by operation.Choose s = a_node Choose ∷ []
heads_by operation.End s = []
heads_by _ s = heads_if_given (edits_of s)

abbrev pub heads_given : Statement → List Head
heads_given s = heads_by s.operation s

-- ---- the Row round all

-- how many nodes are open after a statement of this operation, where so many were
abbrev pub open_after : Operation → ℕ → ℕ
open_after operation.Row n = n + 1
open_after operation.Group n = n + 1
open_after operation.Choose n = n + 1
open_after operation.End n = n - 1
open_after _ n = n

-- how many nodes are at the top after further statements, if so many are there before them and so many are
-- open: one more is complete wherever none is open
abbrev pub count_tops : ℕ → ℕ → List Statement → ℕ
count_tops tops open_nodes [] = tops
count_tops tops open_nodes (s ∷ ss) =
    let left = open_after s.operation open_nodes in count_tops (tops + (if left == 0 then 1 else 0)) left ss

-- before all comes the Row round all, unless exactly one node stands at the top
abbrev pub row_unless_one : ℕ → List Head
row_unless_one n = if n == 1 then [] else a_node Row ∷ []

abbrev pub heads_before : List Statement → List Head
heads_before ss = row_unless_one (count_tops 0 0 ss)

-- ---- lines

-- the line of each node that a statement gives; of all nodes in the order of the text: the Row round all
-- comes from none
abbrev pub lines_by : Statement → List (Option ℕ)
lines_by s = map (λ h. Some s.line) (heads_given s)

abbrev pub lines_of : List Statement → List (Option ℕ)
lines_of ss = map (λ h. None) (heads_before ss) ++ flat_map lines_by ss

-- the line of the node of this number, counted from 0, among those that these statements give
abbrev pub line_among : ℕ → List Statement → Option ℕ
line_among node ss = get_or (flat_map lines_by ss) node None

-- the line of a change deck that a node of its tree comes from; past the last one there is none
abbrev pub line_of_node : List Statement → ℕ → Option ℕ
line_of_node ss node = get_or (lines_of ss) node None

-- ---- what they promise

-- the nodes of a tree in their order are those that its statements give, one after the other
abbrev pub NodesAreGiven : Type 0
NodesAreGiven = (ss : List Statement) (t : CarriedTree) → read_tree ss ≡ Ok t
    → heads_of t ≡ heads_before ss ++ flat_map heads_given ss

-- and a tree has as many as the numbers of its nodes
abbrev pub NodesAreNumbered : Type 0
NodesAreNumbered = (t : CarriedTree) → length (heads_of t) ≡ nodes_of (plain_tree t)

-- a statement gives the node of this number, behind some first nodes: the node is at a place among the
-- statement's own
pub record Gives (first : List Head) (ss : List Statement) (node : ℕ) (head : Head) (s : Statement) : Type 0 where
  pub before : ℕ
  pub place : ℕ
  pub statement : slice_get ss before ≡ Some s
  pub number : node ≡ length (first ++ flat_map heads_given (take before ss)) + place
  pub own : slice_get (heads_given s) place ≡ Some head

-- a node is the Row round all, which comes before all others
pub record IsRoundAll (first : List Head) (node : ℕ) (head : Head) : Type 0 where
  pub alone : first ≡ a_node Row ∷ []
  pub number : node ≡ 0
  pub row : head ≡ a_node Row

-- what a node comes from: a statement that gives it, at its line, or none as the Row round all
abbrev pub NodeComesFrom : List Head → List Statement → ℕ → Head → Option ℕ → Type 0
NodeComesFrom first ss node head None = IsRoundAll first node head
NodeComesFrom first ss node head (Some line) = (s : Statement) × Gives first ss node head s × (s.line ≡ line)

-- each node of a tree comes from the statement at its line
abbrev pub NodesComeFromTheirLines : Type 0
NodesComeFromTheirLines = (ss : List Statement) (t : CarriedTree) → read_tree ss ≡ Ok t
    → (node : ℕ) (head : Head) → slice_get (heads_of t) node ≡ Some head
    → NodeComesFrom (heads_before ss) ss node head (line_of_node ss node)

-- a number past the last node has no line
abbrev pub NoneIsPastTheLast : Type 0
NoneIsPastTheLast = (ss : List Statement) (t : CarriedTree) → read_tree ss ≡ Ok t
    → (node : ℕ) → nodes_of (plain_tree t) ≤ node → line_of_node ss node ≡ None

-- a statement that gives a node gives the line, in each change deck
abbrev pub GivenNodesHaveTheLine : Type 0
GivenNodesHaveTheLine = (ss : List Statement) (node : ℕ) (head : Head) (s : Statement)
    → Gives (heads_before ss) ss node head s → line_of_node ss node ≡ Some s.line

-- The lines of a tree are read as the tree: its leaves one behind the other, and each node closed
-- by its END.
use Rattle.std.proofs.Common.{◌≡◌, ℕ, None, List, [], ◌∷◌, ◌++◌, Result, Ok, refl, sym, ap, ◌∙◌, subst, append_assoc}
use Rattle.std.proofs.Common.{append-nil}
use Rattle.iocm_types.specs.declared.fault.Fault.{Fault}
use Rattle.iocm_types.specs.Fault.{◌>>=◌}
use Rattle.iocm_statements.specs.declared.operation.Operation.{Operation}
use Rattle.iocm_statements.specs.declared.operation.Operation.TheVariants as operation
use Rattle.iocm_statements.specs.declared.statement.Statement.{Statement}
use Rattle.iocm_tree.specs.Carried.{Carried}
use Rattle.iocm_tree.specs.Trees.{CarriedTree, CarriedParts, leaf, row, group, choose, none, part, parts_from}
use Rattle.iocm_tree.specs.Trees.{plain_parts, plain_tree}
use Rattle.iocm_tree_reader.specs.declared.kind.NodeKind.{NodeKind}
use Rattle.iocm_tree_reader.specs.declared.kind.NodeKind.TheVariants.{Row, Group, Choose}
use Rattle.iocm_tree_reader.specs.Leaves.{edits_of, node_of_edits}
use Rattle.iocm_tree_reader.specs.Reading.{OpenNode, Reading, node_of_kind, with_node, opened, tree_so_far, over_limit}
use Rattle.iocm_tree_reader.specs.Reading.{unless_over, limited, read_next, read_from, done_by, with_edits}
use Rattle.iocm_tree_reader.specs.Sizes.{size_of, size_among, beside, inside, size_of_empty}
use Rattle.iocm_tree_reader.proofs.Counting.{among-more, size-node}
use Rattle.iocm_tree_reader.proofs.Limits.{over_node, over_opened}
use Rattle.iocm_tree_writer.specs.Again.{as_read, ReadsLeafAgain}
use Rattle.iocm_tree_writer.specs.Given.{IsGivenEdit, IsGivenTree, AreGivenParts}
use Rattle.iocm_tree_writer.specs.Written.{Line, action_line, word_line, enclosed, tree_lines, lines_in}
use Rattle.iocm_tree_writer.proofs.Behind.{Puts, puts_none, puts_both, puts_one}
use Rattle.iocm_tree_writer.proofs.Sizes.{IsWithin, smaller_is_within, front_no_more, none_no_more}
use Rattle.iocm_tree_writer.proofs.Stated.{IsOfRecords, line_is_of_records}

-- what was read so far
abbrev reading : List CarriedTree → List OpenNode → Reading
reading top os = record { top = top; open_nodes = os }

abbrev open_node : NodeKind → ℕ → List CarriedTree → OpenNode
open_node kind line parts = record { kind = kind; line = line; parts = parts }

-- ---- a statement within the limits

goes_in : (line : ℕ) (r : Reading) (done : Result Reading Fault) → done ≡ Ok r → over_limit (tree_so_far r) ≡ None
    → limited line done ≡ Ok r
goes_in line r done is within = ap (limited line) is ∙ ap (λ over. unless_over over line r) within

node_within : (t : CarriedTree) (top : List CarriedTree) (os : List OpenNode) → IsWithin (size_of t) top os
    → over_limit (tree_so_far (with_node t top os)) ≡ None
node_within t top os within = sym (over_node t (size_of t) top os refl) ∙ within

-- a statement that gives edits
edits_done : (op : Operation) (s : Statement) (r : Reading) → IsOfRecords op
    → done_by op s r ≡ with_edits s r.top r.open_nodes
edits_done operation.Id s r is = refl
edits_done operation.Resource s r is = refl
edits_done operation.Chpid s r is = refl
edits_done operation.Cntlunit s r is = refl
edits_done operation.Iodevice s r is = refl
edits_done operation.Online s r is = refl
edits_done operation.Row s r is = absurd is
edits_done operation.Group s r is = absurd is
edits_done operation.Choose s r is = absurd is
edits_done operation.End s r is = absurd is

-- an operation that opens a node
abbrev opening : NodeKind → Operation
opening Row = operation.Row
opening Group = operation.Group
opening Choose = operation.Choose

opens : (kind : NodeKind) (s : Statement) (r : Reading) → done_by (opening kind) s r ≡ Ok (opened kind s.line r)
opens Row s r = refl
opens Group s r = refl
opens Choose s r = refl

-- ---- leaves

leaf_is_put : ReadsLeafAgain → (c : Carried) → IsGivenEdit c → (top : List CarriedTree) (os : List OpenNode)
    → IsWithin (size_of (leaf c)) top os
    → Puts (action_line c.edit.action ∷ []) (reading top os) (with_node (leaf c) top os)
leaf_is_put leaf_again c is top os within =
    puts_one (action_line c.edit.action) (reading top os) (with_node (leaf c) top os) step
  where
    step : (line : ℕ) → read_next (reading top os) (as_read line (action_line c.edit.action))
        ≡ Ok (with_node (leaf c) top os)
    step line =
        let s = as_read line (action_line c.edit.action) in
        let edits : edits_of s ≡ Ok (c ∷ []) =
        leaf_again line c.edit.action is.action ∙ ap (λ e. Ok (e ∷ [])) is.alone in
        goes_in line (with_node (leaf c) top os) (done_by s.operation s (reading top os))
        (edits_done s.operation s (reading top os) (line_is_of_records c.edit.action)
        ∙ ap (λ found. found >>= λ es. Ok (with_node (node_of_edits es) top os)) edits)
        (node_within (leaf c) top os within)

-- ---- nodes

opening_is_read : (kind : NodeKind) (line : ℕ) (top : List CarriedTree) (os : List OpenNode)
    → IsWithin size_of_empty top os
    → read_next (reading top os) (as_read line (word_line (opening kind))) ≡ Ok (opened kind line (reading top os))
opening_is_read kind line top os within =
    goes_in line (opened kind line (reading top os)) _
    (opens kind (as_read line (word_line (opening kind))) (reading top os))
    (sym (over_opened kind line top os) ∙ within)

end_is_put : (kind : NodeKind) (line : ℕ) (parts top : List CarriedTree) (os : List OpenNode)
    → IsWithin (size_of (node_of_kind kind parts)) top os
    → Puts (word_line operation.End ∷ []) (reading top (open_node kind line parts ∷ os))
    (with_node (node_of_kind kind parts) top os)
end_is_put kind line parts top os within =
    puts_one (word_line operation.End) (reading top (open_node kind line parts ∷ os))
    (with_node (node_of_kind kind parts) top os)
    (λ n. goes_in n (with_node (node_of_kind kind parts) top os) (Ok (with_node (node_of_kind kind parts) top os)) refl
    (node_within (node_of_kind kind parts) top os within))

-- lines between an operation and its END
enclosed_are_put : (kind : NodeKind) (lines : List Line) (parts top : List CarriedTree) (os : List OpenNode)
    → IsWithin (size_of (node_of_kind kind parts)) top os
    → ((line : ℕ) → Puts lines (reading top (open_node kind line [] ∷ os))
    (reading top (open_node kind line parts ∷ os)))
    → Puts (enclosed (opening kind) lines) (reading top os) (with_node (node_of_kind kind parts) top os)
unfolding read_from
enclosed_are_put kind lines parts top os within inner [] rest are = absurd are
enclosed_are_put kind lines parts top os within inner (s ∷ ss) rest are =
    let node = node_of_kind kind parts in
    let empty = smaller_is_within size_of_empty (size_of node) top os (none_no_more kind parts) within in
    ap (λ x. read_next (reading top os) x >>= λ q. read_from q (ss ++ rest)) are.0
    ∙ ap (λ found. found >>= λ q. read_from q (ss ++ rest)) (opening_is_read kind s.line top os empty)
    ∙ puts_both lines (word_line operation.End ∷ []) (reading top (open_node kind s.line [] ∷ os))
    (reading top (open_node kind s.line parts ∷ os)) (with_node node top os)
    (inner s.line) (end_is_put kind s.line parts top os within) ss rest are.1

-- ---- parts

-- parts as they stand in an open node
abbrev pub trees_in : CarriedParts → List CarriedTree
trees_in none = []
trees_in (part p ps) = p ∷ trees_in ps

parts_again : (ps : CarriedParts) → parts_from (trees_in ps) ≡ ps
parts_again none = refl
parts_again (part p ps) = ap (part p) (parts_again ps)

-- a part that goes into an open node is within the limits where the node with it is
part_within : (kind : NodeKind) (line : ℕ) (before : List CarriedTree) (p : CarriedTree) (top : List CarriedTree)
    (os : List OpenNode)
    → IsWithin (size_of (node_of_kind kind (before ++ p ∷ []))) top os
    → IsWithin (size_of p) top (open_node kind line before ∷ os)
part_within kind line before p top os within =
    let same : size_of (node_of_kind kind (before ++ p ∷ [])) ≡ inside (beside (size_among before) (size_of p)) =
    size-node kind (before ++ p ∷ []) ∙ ap inside (among-more before p) in
    subst (λ size. IsWithin size top os) same within

-- the same with further parts behind it
next_within : (kind : NodeKind) (before : List CarriedTree) (p : CarriedTree) (others top : List CarriedTree)
    (os : List OpenNode)
    → IsWithin (size_of (node_of_kind kind (before ++ p ∷ others))) top os
    → IsWithin (size_of (node_of_kind kind ((before ++ p ∷ []) ++ others))) top os
next_within kind before p others top os within =
    subst (λ parts. IsWithin (size_of (node_of_kind kind parts)) top os) (sym (append_assoc before (p ∷ []) others))
    within

-- lines between an operation and its END are put as the node of the parts
closed_are_put : (kind : NodeKind) (t : CarriedTree) (ps : CarriedParts) → node_of_kind kind (trees_in ps) ≡ t
    → (top : List CarriedTree) (os : List OpenNode)
    → IsWithin (size_of t) top os
    → (IsWithin (size_of (node_of_kind kind (trees_in ps))) top os
    → (line : ℕ) → Puts (lines_in (plain_parts ps)) (reading top (open_node kind line [] ∷ os))
    (reading top (open_node kind line (trees_in ps) ∷ os)))
    → Puts (enclosed (opening kind) (lines_in (plain_parts ps))) (reading top os) (with_node t top os)
closed_are_put kind t ps same top os within inner =
    let here = subst (λ x. IsWithin (size_of x) top os) (sym same) within in
    subst (λ x. Puts (enclosed (opening kind) (lines_in (plain_parts ps))) (reading top os) (with_node x top os)) same
    (enclosed_are_put kind (lines_in (plain_parts ps)) (trees_in ps) top os here (inner here))

mutual
  pub tree_is_put : ReadsLeafAgain → (t : CarriedTree) → IsGivenTree t → (top : List CarriedTree) (os : List OpenNode)
      → IsWithin (size_of t) top os
      → Puts (tree_lines (plain_tree t)) (reading top os) (with_node t top os)
  tree_is_put leaf_again (leaf c) is top os within = leaf_is_put leaf_again c is top os within
  tree_is_put leaf_again (row ps) is top os within =
      closed_are_put Row (row ps) ps (ap row (parts_again ps)) top os within
      (λ here line. parts_are_put leaf_again ps is Row line [] top os here)
  tree_is_put leaf_again (group ps) is top os within =
      closed_are_put Group (group ps) ps (ap group (parts_again ps)) top os within
      (λ here line. parts_are_put leaf_again ps is Group line [] top os here)
  tree_is_put leaf_again (choose ps) is top os within =
      closed_are_put Choose (choose ps) ps (ap choose (parts_again ps)) top os within
      (λ here line. parts_are_put leaf_again ps is Choose line [] top os here)

  parts_are_put : ReadsLeafAgain → (ps : CarriedParts) → AreGivenParts ps
      → (kind : NodeKind) (line : ℕ) (before top : List CarriedTree) (os : List OpenNode)
      → IsWithin (size_of (node_of_kind kind (before ++ trees_in ps))) top os
      → Puts (lines_in (plain_parts ps)) (reading top (open_node kind line before ∷ os))
      (reading top (open_node kind line (before ++ trees_in ps) ∷ os))
  parts_are_put leaf_again none are kind line before top os within =
      subst (λ parts. Puts [] (reading top (open_node kind line before ∷ os))
      (reading top (open_node kind line parts ∷ os))) (sym (append-nil before))
      (puts_none (reading top (open_node kind line before ∷ os)))
  parts_are_put leaf_again (part p ps) are kind line before top os within =
      let others = trees_in ps in
      let all = next_within kind before p others top os within in
      let here = smaller_is_within (size_of (node_of_kind kind (before ++ p ∷ [])))
      (size_of (node_of_kind kind ((before ++ p ∷ []) ++ others))) top os
      (front_no_more kind (before ++ p ∷ []) others) all in
      subst (λ parts. Puts (lines_in (plain_parts (part p ps))) (reading top (open_node kind line before ∷ os))
      (reading top (open_node kind line parts ∷ os)))
      (append_assoc before (p ∷ []) others)
      (puts_both (tree_lines (plain_tree p)) (lines_in (plain_parts ps)) (reading top (open_node kind line before ∷ os))
      (reading top (open_node kind line (before ++ p ∷ []) ∷ os))
      (reading top (open_node kind line ((before ++ p ∷ []) ++ others) ∷ os))
      (tree_is_put leaf_again p are.0 top (open_node kind line before ∷ os)
      (part_within kind line before p top os here))
      (parts_are_put leaf_again ps are.1 kind line (before ++ p ∷ []) top os all))

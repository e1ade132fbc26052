-- The tree of a change deck is one that is written and read again.
use Rattle.std.proofs.Common.{◌≡◌, ℕ, ◌≤◌, nat_lt, Bool, true, false, cond, Option, Some, None, List, [], ◌∷◌, ◌++◌}
use Rattle.std.proofs.Common.{All, map, fold, refl, sym, ap, ◌∙◌, subst, arith, append-nil}
use Rattle.std.proofs.lemmas.Bool.Decides.{nat_tests}
use Rattle.std.proofs.lemmas.List.Elements.{All-nil, All-cons, All-head, All-tail, All-append, All-map}
use Rattle.std.specs.Result.{IfOk}
use Rattle.iocm_types.specs.declared.rule.Rule.{Rule}
use Rattle.iocm_types.specs.Fault.{◌>>=◌}
use Rattle.iocm_types.proofs.Giving.{in_turn}
use Rattle.iocm_columns.specs.Statements.{joined_of}
use Rattle.iocm_model.specs.Change.Edit.{add, delete, modify}
use Rattle.iocm_model.specs.Change.Tree.{depth_of, leaves_of, most_depth, most_leaves}
use Rattle.iocm_statements.specs.declared.operation.Operation.{Operation}
use Rattle.iocm_statements.specs.declared.operation.Operation.TheVariants as operation
use Rattle.iocm_statements.specs.declared.statement.Statement.{Statement}
use Rattle.iocm_statements.specs.Statement.{parsed}
use Rattle.iocm_tree.specs.Carried.{Carried, bare}
use Rattle.iocm_tree.specs.Trees.{CarriedTree, leaf, parts_from, plain_tree}
use Rattle.iocm_tree.specs.declared.verb.Verb.{Verb}
use Rattle.iocm_tree.specs.declared.verb.Verb.TheVariants.{Add, Delete, Modify}
use Rattle.iocm_tree_reader.specs.declared.kind.NodeKind.{NodeKind}
use Rattle.iocm_tree_reader.specs.declared.kind.NodeKind.TheVariants.{Row, Group, Choose}
use Rattle.iocm_tree_reader.specs.Leaves.{edits_of, edits_by, comes_before, with_edit, in_key_order, whole}
use Rattle.iocm_tree_reader.specs.Leaves.{node_of_edits}
use Rattle.iocm_tree_reader.specs.Reading.{OpenNode, Reading, node_of_kind, with_node, opened, ended, with_edits}
use Rattle.iocm_tree_reader.specs.Reading.{done_by, tree_so_far, over_limit, unless_over, within_limits, read_next}
use Rattle.iocm_tree_reader.specs.Reading.{finished, read_from, read_tree, nothing_read}
use Rattle.iocm_change_records.specs.Keys.{keys_of, keys_by}
use Rattle.iocm_change_records.specs.Verbs.{verb_named}
use Rattle.iocm_change_records.specs.Whole.{records_of, records_by}
use Rattle.iocm_round_trip.proofs.Shown.{IsCarriable, statements_carriable}
use Rattle.iocm_tree_writer.specs.Again.{tree_in}
use Rattle.iocm_tree_writer.specs.Given.{IsGivenKey, IsGivenRecord, IsModified, IsGivenEdit, IsGivenTree, AreGivenParts}
use Rattle.iocm_tree_writer.specs.Given.{IsTreeOfDecks}
use Rattle.iocm_tree_writer.proofs.ReadKeys.{keys_are_given}
use Rattle.iocm_tree_writer.proofs.ReadRecords.{records_are_added, records_are_modified}
use Rattle.iocm_tree_writer.proofs.Sizes.{neither}

-- ---- the edits of a statement

edits_given : (s : Statement) → IsCarriable s → IfOk (edits_of s) (All IsGivenEdit)
edits_given s are = by (verb_named s.name) refl
  where
    by : (verb : Option Verb) → verb_named s.name ≡ verb → IfOk (edits_by verb s) (All IsGivenEdit)
    by (Some Add) is =
        in_turn (All IsGivenRecord) (All IsGivenEdit) (records_of s) _
        (subst (λ v. IfOk (records_by v s) (All IsGivenRecord)) (sym is) (records_are_added s are))
        (λ rs given. All-map IsGivenEdit (λ r. bare (add r)) rs
        (λ k d within. record { action = given k d within; alone = refl }))
    by (Some Modify) is =
        in_turn (All IsModified) (All IsGivenEdit) (records_of s) _
        (subst (λ v. IfOk (records_by v s) (All IsModified)) (sym is) (records_are_modified s are))
        (λ rs given. All-map IsGivenEdit (λ r. bare (modify r)) rs
        (λ k d within. record { action = given k d within; alone = refl }))
    by (Some Delete) is =
        in_turn (All IsGivenKey) (All IsGivenEdit) (keys_of s) _
        (subst (λ v. IfOk (keys_by v s) (All IsGivenKey)) (sym is) (keys_are_given s))
        (λ ks given. All-map IsGivenEdit (λ k. bare (delete k)) ks
        (λ k d within. record { action = given k d within; alone = refl }))
    by None is = tt

-- an edit in its place
put_given : (xs : List Carried) (e : Carried) → All IsGivenEdit xs → IsGivenEdit e → All IsGivenEdit (with_edit xs e)
put_given [] e are is = All-cons IsGivenEdit e [] is (All-nil IsGivenEdit)
put_given (x ∷ xs) e are is = by (comes_before e x) (put_given xs e (All-tail IsGivenEdit x xs are) is)
  where
    by : (first : Bool) → All IsGivenEdit (with_edit xs e)
        → All IsGivenEdit (cond first (e ∷ x ∷ xs) (x ∷ with_edit xs e))
    by true rest = All-cons IsGivenEdit e (x ∷ xs) is are
    by false rest = All-cons IsGivenEdit x (with_edit xs e) (All-head IsGivenEdit x xs are) rest

ordered_given : (xs edits : List Carried) → All IsGivenEdit xs → All IsGivenEdit edits
    → All IsGivenEdit (fold with_edit xs edits)
ordered_given xs [] first second = first
ordered_given xs (e ∷ edits) first second =
    ordered_given (with_edit xs e) edits (put_given xs e first (All-head IsGivenEdit e edits second))
    (All-tail IsGivenEdit e edits second)

-- ---- nodes

parts_given : (ts : List CarriedTree) → All IsGivenTree ts → AreGivenParts (parts_from ts)
parts_given [] are = tt
parts_given (t ∷ ts) are = (All-head IsGivenTree t ts are, parts_given ts (All-tail IsGivenTree t ts are))

whole_given : (ts : List CarriedTree) → All IsGivenTree ts → IsGivenTree (whole ts)
whole_given [] are = tt
whole_given (t ∷ []) are = All-head IsGivenTree t [] are
whole_given (t ∷ u ∷ ts) are = parts_given (t ∷ u ∷ ts) are

kind_given : (kind : NodeKind) (ts : List CarriedTree) → All IsGivenTree ts → IsGivenTree (node_of_kind kind ts)
kind_given Row ts are = parts_given ts are
kind_given Group ts are = parts_given ts are
kind_given Choose ts are = parts_given ts are

edits_node_given : (edits : List Carried) → All IsGivenEdit edits → IsGivenTree (node_of_edits edits)
edits_node_given edits are =
    whole_given (map leaf (in_key_order edits))
    (All-map IsGivenTree leaf (in_key_order edits) (ordered_given [] edits (All-nil IsGivenEdit) are))

-- ---- what was read so far

abbrev HasGivenParts : OpenNode → Type 0
HasGivenParts o = All IsGivenTree o.parts

record HasGiven (r : Reading) : Type 0 where
  pub top : All IsGivenTree r.top
  pub open_nodes : All HasGivenParts r.open_nodes

one_more : (ts : List CarriedTree) (t : CarriedTree) → All IsGivenTree ts → IsGivenTree t
    → All IsGivenTree (ts ++ t ∷ [])
one_more ts t are is = All-append IsGivenTree ts (t ∷ []) are (All-cons IsGivenTree t [] is (All-nil IsGivenTree))

node_given : (t : CarriedTree) (top : List CarriedTree) (os : List OpenNode) → IsGivenTree t → All IsGivenTree top
    → All HasGivenParts os → HasGiven (with_node t top os)
node_given t top [] is first second = record { top = one_more top t first is; open_nodes = second }
node_given t top (o ∷ os) is first second = record {
  top = first;
  open_nodes = All-cons HasGivenParts (record o { parts = o.parts ++ t ∷ [] }) os
      (one_more o.parts t (All-head HasGivenParts o os second) is) (All-tail HasGivenParts o os second);
}

opened_given : (kind : NodeKind) (line : ℕ) (r : Reading) → HasGiven r → HasGiven (opened kind line r)
opened_given kind line r has = record {
  top = has.top;
  open_nodes = All-cons HasGivenParts (record { kind = kind; line = line; parts = [] }) r.open_nodes
      (All-nil IsGivenTree) has.open_nodes;
}

ended_given : (line : ℕ) (top : List CarriedTree) (os : List OpenNode) → All IsGivenTree top → All HasGivenParts os
    → IfOk (ended line top os) HasGiven
ended_given line top [] first second = tt
ended_given line top (o ∷ os) first second =
    node_given (node_of_kind o.kind o.parts) top os (kind_given o.kind o.parts (All-head HasGivenParts o os second))
    first (All-tail HasGivenParts o os second)

edited_given : (s : Statement) (r : Reading) → IsCarriable s → HasGiven r
    → IfOk (with_edits s r.top r.open_nodes) HasGiven
edited_given s r are has =
    in_turn (All IsGivenEdit) HasGiven (edits_of s) _ (edits_given s are)
    (λ edits given. node_given (node_of_edits edits) r.top r.open_nodes (edits_node_given edits given) has.top
    has.open_nodes)

done_given : (op : Operation) (s : Statement) (r : Reading) → IsCarriable s → HasGiven r
    → IfOk (done_by op s r) HasGiven
done_given operation.Row s r are has = opened_given Row s.line r has
done_given operation.Group s r are has = opened_given Group s.line r has
done_given operation.Choose s r are has = opened_given Choose s.line r has
done_given operation.End s r are has = ended_given s.line r.top r.open_nodes has.top has.open_nodes
done_given operation.Id s r are has = edited_given s r are has
done_given operation.Resource s r are has = edited_given s r are has
done_given operation.Chpid s r are has = edited_given s r are has
done_given operation.Cntlunit s r are has = edited_given s r are has
done_given operation.Iodevice s r are has = edited_given s r are has
done_given operation.Online s r are has = edited_given s r are has

-- ---- within the limits

record IsReadWell (r : Reading) : Type 0 where
  pub given : HasGiven r
  pub within : over_limit (tree_so_far r) ≡ None

limits_given : (line : ℕ) (r : Reading) → HasGiven r → IfOk (within_limits line r) IsReadWell
limits_given line r has = by (over_limit (tree_so_far r)) refl
  where
    by : (over : Option Rule) → over_limit (tree_so_far r) ≡ over → IfOk (unless_over over line r) IsReadWell
    by (Some rule) is = tt
    by None is = record { given = has; within = is }

next_given : (r : Reading) (s : Statement) → IsCarriable s → HasGiven r → IfOk (read_next r s) IsReadWell
next_given r s are has =
    in_turn HasGiven IsReadWell (done_by s.operation s r) (within_limits s.line) (done_given s.operation s r are has)
    (limits_given s.line)

no_more : (most n : ℕ) → nat_lt most n ≡ false → n ≤ most
no_more most n within = grind (arith, nat_tests)

tree_given : (t : CarriedTree) → IsGivenTree t → over_limit t ≡ None → IsTreeOfDecks t
tree_given t is within =
    let parts = neither (nat_lt most_depth (depth_of (plain_tree t))) (nat_lt most_leaves (leaves_of (plain_tree t)))
    within in
    record {
      given = is;
      depth = no_more most_depth (depth_of (plain_tree t)) parts.0;
      leaves = no_more most_leaves (leaves_of (plain_tree t)) parts.1;
    }

finished_given : (top : List CarriedTree) (os : List OpenNode) → IsReadWell (record { top = top; open_nodes = os })
    → IfOk (finished top os) IsTreeOfDecks
finished_given top [] well =
    tree_given (whole top) (whole_given top well.given.top)
    (ap (λ ts. over_limit (whole ts)) (sym (append-nil top)) ∙ well.within)
finished_given top (o ∷ os) well = tt

all_given : (r : Reading) (ss : List Statement) → All IsCarriable ss → IsReadWell r
    → IfOk (read_from r ss) IsTreeOfDecks
unfolding read_from
all_given r [] are well = finished_given r.top r.open_nodes well
all_given r (s ∷ ss) are well =
    in_turn IsReadWell IsTreeOfDecks (read_next r s) _ (next_given r s (All-head IsCarriable s ss are) well.given)
    (λ q next. all_given q ss (All-tail IsCarriable s ss are) next)

-- ---- whatever bytes say

pub trees_given : (bytes : List ℕ) → IfOk (tree_in bytes) IsTreeOfDecks
trees_given bytes =
    in_turn (All IsCarriable) IsTreeOfDecks (joined_of bytes >>= parsed) read_tree (statements_carriable bytes)
    (λ ss are. all_given nothing_read ss are
    (record { given = record { top = All-nil IsGivenTree; open_nodes = All-nil HasGivenParts }; within = refl }))

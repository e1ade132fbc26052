-- The tree of groups of actions: a leaf or a Row for each group, beside each other.
use Rattle.std.proofs.Common.{◌≡◌, ◌∙◌, ℕ, ◌≤◌, ◌<◌, ◌+◌, ◌==◌, nat_lt, Bool, true, false, cond, None, List, [], ◌∷◌}
use Rattle.std.proofs.Common.{◌++◌, length, map, refl, sym, ap, subst, append-nil, length-append, suc, ne_eqb, arith}
use Rattle.std.proofs.lemmas.List.{map-append}
use Rattle.std.proofs.lemmas.Bool.Decides.{nat_tests}
use Rattle.std.specs.List.{AllByRecursion}
use Rattle.iocm_model.specs.Change.Edit.{Action}
use Rattle.iocm_model.specs.Change.Tree.{depth_of, depth_in, leaves_of, leaves_in, or_one, most_leaves}
use Rattle.iocm_tree.specs.Carried.{Carried, bare}
use Rattle.iocm_tree.specs.Trees.{CarriedTree, leaf, row, parts_from, plain_tree, plain_parts}
use Rattle.iocm_tree_reader.specs.Leaves.{node_of_edits, whole}
use Rattle.iocm_tree_reader.specs.Reading.{over_limit}
use Rattle.iocm_difference_writer.specs.Again.{edits_in, edits_among, IsOfRows, AreOfRows}
use Rattle.iocm_difference_writer.proofs.Chains.{joined}
use Rattle.iocm_difference_writer.proofs.Rising.{AreRising, rising_in_order}

-- one action or more, whose keys rise
pub record IsGroup (actions : List Action) : Type 0 where
  pub some : 0 < length actions
  pub rising : AreRising actions

abbrev pub AreGroups : List (List Action) → Type 0
AreGroups groups = AllByRecursion IsGroup groups

abbrev pub node : List Action → CarriedTree
node actions = node_of_edits (map bare actions)

-- ---- leaves beside each other

depth_beside : (es : List Carried) → depth_in (plain_parts (parts_from (map leaf es))) ≤ 1
depth_beside [] = omega arith
depth_beside (e ∷ es) = omega (arith, depth_beside es)

leaves_beside : (es : List Carried) → leaves_in (plain_parts (parts_from (map leaf es))) ≡ length es
leaves_beside [] = refl
leaves_beside (e ∷ es) = omega (arith, leaves_beside es)

edits_beside : (es : List Carried) → edits_among (parts_from (map leaf es)) ≡ es
edits_beside [] = refl
edits_beside (e ∷ es) = ap (λ rest. e ∷ rest) (edits_beside es)

rows_beside : (es : List Carried) → AreOfRows (parts_from (map leaf es))
rows_beside [] = tt
rows_beside (e ∷ es) = (tt, rows_beside es)

some_leaves : (n : ℕ) → 0 < n → or_one n ≡ n
some_leaves n some = ap (λ none. cond none 1 n) (ne_eqb n 0 (λ e. omega arith))

-- ---- a node

-- what is known of a tree
record Holds (t : CarriedTree) (es : List Carried) (most : ℕ) : Type 0 where
  pub depth : depth_of (plain_tree t) ≤ most
  pub leaves : leaves_of (plain_tree t) ≡ length es
  pub edits : edits_in t ≡ es
  pub in_rows : IsOfRows t

leaves_hold : (es : List Carried) → 0 < length es → Holds (whole (map leaf es)) es 2
leaves_hold [] some = absurd (omega arith)
leaves_hold (e ∷ []) some = record { depth = omega arith; leaves = refl; edits = refl; in_rows = tt }
leaves_hold (e ∷ f ∷ es) some = record {
  depth = omega (arith, depth_beside (e ∷ f ∷ es));
  leaves = some_leaves _ (omega (arith, leaves_beside (e ∷ f ∷ es))) ∙ leaves_beside (e ∷ f ∷ es);
  edits = edits_beside (e ∷ f ∷ es);
  in_rows = rows_beside (e ∷ f ∷ es);
}

same_count : (actions : List Action) → length (map bare actions) ≡ length actions
same_count [] = refl
same_count (a ∷ actions) = ap suc (same_count actions)

node_holds : (actions : List Action) → IsGroup actions → Holds (node actions) (map bare actions) 2
node_holds actions is =
    subst (λ es. Holds (whole (map leaf es)) (map bare actions) 2) (sym (rising_in_order actions is.rising))
    (leaves_hold (map bare actions) (omega (arith, same_count actions, is.some)))

-- ---- nodes beside each other

abbrev pub nodes : List (List Action) → List CarriedTree
nodes groups = map node groups

depth_among : (groups : List (List Action)) → AreGroups groups → depth_in (plain_parts (parts_from (nodes groups))) ≤ 2
depth_among [] are = omega arith
depth_among (g ∷ groups) are = omega (arith, (node_holds g are.0).depth, depth_among groups are.1)

count_both : (xs ys : List Action) → length (xs ++ ys) ≡ length xs + length ys
count_both xs ys = length-append xs ys

leaves_among : (groups : List (List Action)) → AreGroups groups
    → leaves_in (plain_parts (parts_from (nodes groups))) ≡ length (joined groups)
leaves_among [] are = refl
leaves_among (g ∷ groups) are =
    omega (arith, (node_holds g are.0).leaves, same_count g, leaves_among groups are.1, count_both g (joined groups))

edits_joined : (groups : List (List Action)) → AreGroups groups
    → edits_among (parts_from (nodes groups)) ≡ map bare (joined groups)
edits_joined [] are = refl
edits_joined (g ∷ groups) are =
    ap (λ x. x ++ edits_among (parts_from (nodes groups))) (node_holds g are.0).edits
    ∙ ap (λ x. map bare g ++ x) (edits_joined groups are.1)
    ∙ sym (map-append bare g (joined groups))

rows_joined : (groups : List (List Action)) → AreGroups groups → AreOfRows (parts_from (nodes groups))
rows_joined [] are = tt
rows_joined (g ∷ groups) are = ((node_holds g are.0).in_rows, rows_joined groups are.1)

-- ---- the whole

not_over : (most n : ℕ) → n ≤ most → nat_lt most n ≡ false
not_over most n within = grind (arith, nat_tests)

within : (t : CarriedTree) → depth_of (plain_tree t) ≤ 32 → leaves_of (plain_tree t) ≤ 4096 → over_limit t ≡ None
within t depth leaves = rw
    (not_over 32 (depth_of (plain_tree t)) depth, not_over 4096 (leaves_of (plain_tree t)) leaves) refl

few_leaves : (n : ℕ) → n ≤ 4096 → or_one n ≤ 4096
few_leaves n few = by (n == 0)
  where
    by : (none : Bool) → cond none 1 n ≤ 4096
    by true = omega arith
    by false = few

-- the tree of so many actions at most is within the limits
pub whole_within : (groups : List (List Action)) → AreGroups groups → length (joined groups) ≤ most_leaves
    → over_limit (whole (nodes groups)) ≡ None
whole_within [] are few = refl
whole_within (g ∷ []) are few =
    let holds = node_holds g are.0 in
    within (node g) (omega (arith, holds.depth))
    (omega (arith, holds.leaves, same_count g, few, ap length (append-nil g)))
whole_within (g ∷ h ∷ groups) are few =
    let all = g ∷ h ∷ groups in
    within (row (parts_from (nodes all))) (omega (arith, depth_among all are))
    (few_leaves (leaves_in (plain_parts (parts_from (nodes all)))) (omega (arith, leaves_among all are, few)))

-- it has the actions in their order
pub whole_has : (groups : List (List Action)) → AreGroups groups
    → edits_in (whole (nodes groups)) ≡ map bare (joined groups)
whole_has [] are = refl
whole_has (g ∷ []) are = (node_holds g are.0).edits ∙ ap (map bare) (sym (append-nil g))
whole_has (g ∷ h ∷ groups) are = edits_joined (g ∷ h ∷ groups) are

pub whole_in_rows : (groups : List (List Action)) → AreGroups groups → IsOfRows (whole (nodes groups))
whole_in_rows [] are = tt
whole_in_rows (g ∷ []) are = (node_holds g are.0).in_rows
whole_in_rows (g ∷ h ∷ groups) are = rows_joined (g ∷ h ∷ groups) are

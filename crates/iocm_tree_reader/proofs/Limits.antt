-- What the limits say of the tree so far is what they say of its size.
use Rattle.std.proofs.Common.{◌≡◌, ℕ, ◌+◌, ◌==◌, ◌<◌, nat_lt, List, [], ◌∷◌, ◌++◌, length, map, fold, min, suc, arith}
use Rattle.std.proofs.Common.{refl, sym, ap, ◌∙◌, if◌then◌else◌, Bool, true, false, None, Some, lit<}
use Rattle.std.proofs.lemmas.Bool.Decides.{nat_tests}
use Rattle.iocm_types.specs.declared.rule.Rule.TheVariants.{C1, C2}
use Rattle.std.proofs.lemmas.List.{append-nil}
use Rattle.iocm_model.specs.Change.Tree.{depth_of, leaves_of}
use Rattle.iocm_tree.specs.Carried.{Carried}
use Rattle.iocm_tree.specs.Trees.{CarriedTree, leaf, plain_tree}
use Rattle.iocm_tree_reader.proofs.Counting.{among-more, size-node, same_size, depth_among, leaves_among}
use Rattle.iocm_tree_reader.specs.declared.kind.NodeKind.{NodeKind}
use Rattle.iocm_tree_reader.specs.declared.kind.NodeKind.TheVariants.{Row, Group, Choose}
use Rattle.iocm_tree_reader.specs.declared.size.Size.{Size}
use Rattle.iocm_tree_reader.specs.Leaves.{comes_before, with_edit, in_key_order, node_of_edits, whole}
use Rattle.iocm_tree_reader.specs.Reading.{OpenNode, Reading, node_of_kind, with_node, opened, closed_behind}
use Rattle.iocm_tree_reader.specs.Reading.{tree_so_far, over_limit}
use Rattle.iocm_tree_reader.specs.Sizes.{most, size_of, size_among, inside, beside, around, size_with, over}
use Rattle.iocm_tree_reader.specs.Sizes.{size_of_empty, size_of_edits, size_of_leaves}

-- a limit is told by the size
capped_test : (k n : ℕ) → k < most → nat_lt k (min most n) ≡ nat_lt k n
capped_test k n within = grind (arith, nat_tests)

over_test : (d l : ℕ) → over (record { depth = min most d; leaves = min most l })
    ≡ over (record { depth = d; leaves = l })
over_test d l =
    ap (λ b. if b then Some C1 else (if nat_lt 4096 (min most l) then Some C2 else None)) (capped_test 32 d (lit< tt))
    ∙ ap (λ b. if nat_lt 32 d then Some C1 else (if b then Some C2 else None)) (capped_test 4096 l (lit< tt))

pub over-size : (t : CarriedTree) → over (size_of t) ≡ over_limit t
over-size t = over_test (depth_of (plain_tree t)) (leaves_of (plain_tree t))

-- a tree with open nodes closed round it
abbrev nested : CarriedTree → List OpenNode → CarriedTree
nested t [] = t
nested t (o ∷ os) = nested (node_of_kind o.kind (o.parts ++ t ∷ [])) os

closed-one : (t : CarriedTree) (os : List OpenNode) → fold closed_behind (t ∷ []) os ≡ nested t os ∷ []
closed-one t [] = refl
closed-one t (o ∷ os) = closed-one (node_of_kind o.kind (o.parts ++ t ∷ [])) os

size-nested : (t : CarriedTree) (os : List OpenNode) → size_of (nested t os) ≡ fold around (size_of t) os
size-nested t [] = refl
size-nested t (o ∷ os) =
    size-nested (node_of_kind o.kind (o.parts ++ t ∷ [])) os
    ∙ ap (λ s. fold around s os) (size-node o.kind (o.parts ++ t ∷ []) ∙ ap inside (among-more o.parts t))

-- the tree so far, with a node in it, is that of the closed nodes and the node with all that is
-- open round it
so_far-node : (t : CarriedTree) (top : List CarriedTree) (os : List OpenNode)
    → tree_so_far (with_node t top os) ≡ whole (top ++ nested t os ∷ [])
so_far-node t top [] = ap whole (append-nil (top ++ t ∷ []))
so_far-node t top (o ∷ os) =
    ap (λ ts. whole (top ++ fold closed_behind (node_of_kind o.kind ts ∷ []) os)) (append-nil (o.parts ++ t ∷ []))
    ∙ ap (λ ts. whole (top ++ ts)) (closed-one (node_of_kind o.kind (o.parts ++ t ∷ [])) os)

so_far-opened : (kind : NodeKind) (line : ℕ) (r : Reading)
    → tree_so_far (opened kind line r) ≡ whole (r.top ++ nested (node_of_kind kind []) r.open_nodes ∷ [])
so_far-opened kind line r = ap (λ ts. whole (r.top ++ ts)) (closed-one (node_of_kind kind []) r.open_nodes)

if_some : {X : Type 0} (n : ℕ) (a b : X) → (if suc n == 0 then a else b) ≡ b
if_some n a b = grind arith

-- a tree behind those at the top
size-whole : (top : List CarriedTree) (t : CarriedTree) (s : Size) → size_of t ≡ s
    → size_of (whole (top ++ t ∷ [])) ≡ (if length top == 0 then s else inside (beside (size_among top) s))
size-whole [] t s is = is
size-whole (x ∷ []) t s is =
    size-node Row (x ∷ t ∷ []) ∙ ap inside (among-more (x ∷ []) t)
    ∙ ap (λ z. inside (beside (size_among (x ∷ [])) z)) is
size-whole (x ∷ y ∷ ts) t s is =
    size-node Row (x ∷ y ∷ ts ++ t ∷ []) ∙ ap inside (among-more (x ∷ y ∷ ts) t)
    ∙ ap (λ z. inside (beside (size_among (x ∷ y ∷ ts)) z)) is
    ∙ sym (if_some (suc (length ts)) s (inside (beside (size_among (x ∷ y ∷ ts)) s)))

pub over_node : (t : CarriedTree) (size : Size) (top : List CarriedTree) (os : List OpenNode) → size ≡ size_of t
    → over (size_with size top os) ≡ over_limit (tree_so_far (with_node t top os))
over_node t size top os is =
    ap (λ s. over (size_with s top os)) is
    ∙ ap over (sym (size-whole top (nested t os) (fold around (size_of t) os) (size-nested t os)))
    ∙ over-size (whole (top ++ nested t os ∷ []))
    ∙ ap over_limit (sym (so_far-node t top os))

empty-size : (kind : NodeKind) → size_of (node_of_kind kind []) ≡ size_of_empty
empty-size Row = refl
empty-size Group = refl
empty-size Choose = refl

pub over_opened : (kind : NodeKind) (line : ℕ) (top : List CarriedTree) (os : List OpenNode)
    → over (size_with size_of_empty top os)
    ≡ over_limit (tree_so_far (opened kind line (record { top = top; open_nodes = os })))
over_opened kind line top os =
    ap (λ s. over (size_with s top os)) (sym (empty-size kind))
    ∙ ap over (sym (size-whole top (nested (node_of_kind kind []) os) (fold around (size_of (node_of_kind kind [])) os)
    (size-nested (node_of_kind kind []) os)))
    ∙ over-size (whole (top ++ nested (node_of_kind kind []) os ∷ []))
    ∙ ap over_limit (sym (so_far-opened kind line (record { top = top; open_nodes = os })))

-- the size of what edits give is told by how many they are
length-if : (b : Bool) (e x : Carried) (xs behind : List Carried) → length behind ≡ suc (length xs)
    → length (if b then e ∷ x ∷ xs else x ∷ behind) ≡ suc (suc (length xs))
length-if true e x xs behind is = refl
length-if false e x xs behind is = ap suc is

length-with_edit : (xs : List Carried) (e : Carried) → length (with_edit xs e) ≡ suc (length xs)
length-with_edit [] e = refl
length-with_edit (x ∷ xs) e = length-if (comes_before e x) e x xs (with_edit xs e) (length-with_edit xs e)

pub length-ordered : (done edits : List Carried) → length (fold with_edit done edits) ≡ length done + length edits
length-ordered done [] = omega arith
length-ordered done (e ∷ edits) = omega (arith, length-ordered (with_edit done e) edits, length-with_edit done e)

depth-leaves : (edits : List Carried) → depth_among (map leaf edits) ≡ min 1 (length edits)
depth-leaves [] = refl
depth-leaves (e ∷ edits) = omega (arith, depth-leaves edits)

leaves-leaves : (edits : List Carried) → leaves_among (map leaf edits) ≡ length edits
leaves-leaves [] = refl
leaves-leaves (e ∷ edits) = omega (arith, leaves-leaves edits)

size-leaves : (edits : List Carried) → size_among (map leaf edits) ≡ size_of_leaves (length edits)
size-leaves edits = same_size _ _ _ _ (omega (arith, depth-leaves edits)) (ap (λ n. min most n) (leaves-leaves edits))

size-given : (edits : List Carried) → size_of (whole (map leaf edits)) ≡ size_of_edits (length edits)
size-given [] = refl
size-given (e ∷ []) = refl
size-given (e ∷ f ∷ edits) =
    size-node Row (map leaf (e ∷ f ∷ edits)) ∙ ap inside (size-leaves (e ∷ f ∷ edits))
    ∙ sym (if_several (length edits) _ _)
  where
    if_several : {X : Type 0} (n : ℕ) (a b : X) → (if suc (suc n) == 1 then a else b) ≡ b
    if_several n a b = grind arith

size-edits : (edits : List Carried) → size_of_edits (length edits) ≡ size_of (node_of_edits edits)
size-edits edits = sym (size-given (in_key_order edits)
    ∙ ap size_of_edits (length-ordered [] edits ∙ zero_more (length edits)))
  where
    zero_more : (n : ℕ) → 0 + n ≡ n
    zero_more n = omega arith

pub over_edits : (edits : List Carried) (top : List CarriedTree) (os : List OpenNode)
    → over (size_with (size_of_edits (length edits)) top os)
    ≡ over_limit (tree_so_far (with_node (node_of_edits edits) top os))
over_edits edits top os = over_node (node_of_edits edits) (size_of_edits (length edits)) top os (size-edits edits)

pub ruleset limit_steps = (over_node, over_opened, over_edits)

-- How deep nodes are and how many leaves they have, counted as the code counts.
use Rattle.std.proofs.Common.{◌≡◌, ◌≢◌, length-append, ℕ, ◌+◌, List, [], ◌∷◌, ◌++◌, length, map, max, min, zero, suc}
use Rattle.std.proofs.Common.{arith, refl, sym, ap, ◌∙◌}
use Rattle.std.proofs.lemmas.List.{map-append}
use Rattle.iocm_model.specs.Change.Tree.{depth_of, depth_in, leaves_of, leaves_in, or_one}
use Rattle.iocm_tree.proofs.Trees.{tree-Row, tree-Group, tree-Choose}
use Rattle.iocm_tree.specs.Trees.{CarriedTree, row, parts_from, plain_tree, plain_parts, tree_of}
use Rattle.iocm_tree.specs.declared.tree.Tree.{Tree}
use Rattle.iocm_tree_reader.specs.declared.kind.NodeKind.{NodeKind}
use Rattle.iocm_tree_reader.specs.declared.kind.NodeKind.TheVariants.{Row, Group, Choose}
use Rattle.iocm_tree_reader.specs.declared.size.Size.{Size}
use Rattle.iocm_tree_reader.specs.Leaves.{whole}
use Rattle.iocm_tree_reader.specs.Reading.{node_of_kind}
use Rattle.iocm_tree_reader.specs.Sizes.{most, size_of, size_among, beside, inside}

-- the depth and the leaves of trees beside each other
abbrev pub depth_among : List CarriedTree → ℕ
depth_among ts = depth_in (plain_parts (parts_from ts))

abbrev pub leaves_among : List CarriedTree → ℕ
leaves_among ts = leaves_in (plain_parts (parts_from ts))

-- two sizes of equal numbers
pub same_size : (a b c d : ℕ) → a ≡ c → b ≡ d → let s : Size = record { depth = a; leaves = b } in let t : Size =
    record { depth = c; leaves = d } in s ≡ t
same_size a b c d e f = cc

-- one tree more
depth-more : (ts : List CarriedTree) (t : CarriedTree)
    → depth_among (ts ++ t ∷ []) ≡ max (depth_among ts) (depth_of (plain_tree t))
depth-more [] t = omega arith
depth-more (x ∷ ts) t = omega (arith, depth-more ts t)

leaves-more : (ts : List CarriedTree) (t : CarriedTree)
    → leaves_among (ts ++ t ∷ []) ≡ leaves_among ts + leaves_of (plain_tree t)
leaves-more [] t = omega arith
leaves-more (x ∷ ts) t = omega (arith, leaves-more ts t)

capped_max : (a b : ℕ) → max (min most a) (min most b) ≡ min most (max a b)
capped_max a b = omega arith

capped_sum : (a b : ℕ) → min most (min most a + min most b) ≡ min most (a + b)
capped_sum a b = omega arith

pub among-more : (ts : List CarriedTree) (t : CarriedTree)
    → size_among (ts ++ t ∷ []) ≡ beside (size_among ts) (size_of t)
among-more ts t =
    same_size _ _ _ _
    (ap (λ n. min most n) (depth-more ts t) ∙ sym (capped_max (depth_among ts) (depth_of (plain_tree t))))
    (ap (λ n. min most n) (leaves-more ts t) ∙ sym (capped_sum (leaves_among ts) (leaves_of (plain_tree t))))

-- a node of parts
capped_one : (a : ℕ) → min most (or_one a) ≡ or_one (min most a)
capped_one zero = refl
capped_one (suc a) = grind arith

capped_more : (a : ℕ) → min most (a + 1) ≡ min most (min most a + 1)
capped_more a = omega arith

of_parts : (ts : List CarriedTree) → size_of (row (parts_from ts)) ≡ inside (size_among ts)
of_parts ts = same_size _ _ _ _ (capped_more (depth_among ts)) (capped_one (leaves_among ts))

pub size-node : (kind : NodeKind) (ts : List CarriedTree) → size_of (node_of_kind kind ts) ≡ inside (size_among ts)
size-node Row ts = of_parts ts
size-node Group ts = of_parts ts
size-node Choose ts = of_parts ts

-- a tree alone
pub among-one : (t : CarriedTree) → size_among (t ∷ []) ≡ size_of t
among-one t = same_size _ _ _ _ (omega arith) (omega arith)

-- trees in memory, with one more behind them
pub seen_more : {A : Type 0} (xs ys : List (Tree A)) (t : Tree A) → ys ≡ xs ++ t ∷ []
    → map tree_of ys ≡ map tree_of xs ++ tree_of t ∷ []
seen_more xs ys t is = ap (map tree_of) is ∙ map-append tree_of xs (t ∷ [])

pub counted_more : {A : Type 0} (xs ys : List (Tree A)) (t : Tree A) (s a : Size) → ys ≡ xs ++ t ∷ []
    → s ≡ size_among (map tree_of xs) → a ≡ size_of (tree_of t) → beside s a ≡ size_among (map tree_of ys)
counted_more xs ys t s a is counted one =
    ap (λ z. beside z a) counted ∙ ap (beside (size_among (map tree_of xs))) one
    ∙ sym (ap size_among (seen_more xs ys t is) ∙ among-more (map tree_of xs) (tree_of t))

pub counted_node : {A : Type 0} (kind : NodeKind) (t : Tree A) (xs : List (Tree A)) (s : Size)
    → tree_of t ≡ node_of_kind kind (map tree_of xs)
    → s ≡ size_among (map tree_of xs) → inside s ≡ size_of (tree_of t)
counted_node kind t xs s is counted = ap inside counted ∙ sym (ap size_of is ∙ size-node kind (map tree_of xs))

-- the only tree
pub counted_only : {A : Type 0} (xs : List (Tree A)) (t : Tree A) (s : Size) → xs ≡ t ∷ []
    → s ≡ size_among (map tree_of xs) → s ≡ size_of (tree_of t)
counted_only xs t s is counted = counted ∙ ap (λ ys. size_among (map tree_of ys)) is ∙ among-one (tree_of t)

pub only_item : {X : Type 0} (xs ys : List X) (x : X) → xs ≡ ys ++ x ∷ [] → length xs ≡ 1 → xs ≡ x ∷ []
only_item xs [] x is one = is
only_item xs (y ∷ ys) x is one =
    absurd (omega (arith, ap length is, one, length-append ys (x ∷ [])))

-- none or several trees are the parts of a Row
pub whole_several : {A : Type 0} (xs : List (Tree A)) → length xs ≢ 1
    → whole (map tree_of xs) ≡ row (parts_from (map tree_of xs))
whole_several [] apart = refl
whole_several (x ∷ []) apart = absurd (apart refl)
whole_several (x ∷ y ∷ xs) apart = refl

pub ruleset counting_steps = (seen_more, counted_more, counted_node, counted_only)

pub ruleset tree_steps = (tree-Row, tree-Group, tree-Choose)

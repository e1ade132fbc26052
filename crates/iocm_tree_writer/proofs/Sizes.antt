-- Where a tree that is put into what was read so far is within the limits, so is one that is no
-- deeper and has no more leaves.
use Rattle.std.proofs.Common.{◌≡◌, ℕ, ◌≤◌, ◌==◌, nat_lt, Bool, true, false, cond, None, Some, List, [], ◌∷◌, ◌++◌}
use Rattle.std.proofs.Common.{length, fold, arith, refl}
use Rattle.std.proofs.lemmas.Bool.Decides.{nat_tests}
use Rattle.iocm_types.specs.declared.rule.Rule.TheVariants.{C1, C2}
use Rattle.iocm_model.specs.Change.Tree.{or_one}
use Rattle.iocm_tree.specs.Trees.{CarriedTree}
use Rattle.iocm_tree_reader.specs.declared.kind.NodeKind.{NodeKind}
use Rattle.iocm_tree_reader.specs.declared.size.Size.{Size}
use Rattle.iocm_tree_reader.specs.Reading.{OpenNode, node_of_kind}
use Rattle.iocm_tree_reader.specs.Sizes.{size_of, size_among, beside, inside, around, size_with, over, size_of_empty}
use Rattle.iocm_tree_reader.proofs.Counting.{depth_among, leaves_among, size-node}

-- one size is no more than another
pub record IsNoMore (a b : Size) : Type 0 where
  pub depth : a.depth ≤ b.depth
  pub leaves : a.leaves ≤ b.leaves

-- ---- beside others, and inside of nodes

one_no_more : (m n : ℕ) → m ≤ n → or_one m ≤ or_one n
one_no_more m n less = grind (arith, nat_tests)

inside_no_more : (a b : Size) → IsNoMore a b → IsNoMore (inside a) (inside b)
inside_no_more a b less =
    let depth = less.depth in
    record { depth = omega arith; leaves = one_no_more a.leaves b.leaves less.leaves }

beside_no_more : (a b c : Size) → IsNoMore b c → IsNoMore (beside a b) (beside a c)
beside_no_more a b c less =
    let depth = less.depth in let leaves = less.leaves in
    record { depth = omega arith; leaves = omega arith }

round_no_more : (a b : Size) (os : List OpenNode) → IsNoMore a b → IsNoMore (fold around a os) (fold around b os)
round_no_more a b [] less = less
round_no_more a b (o ∷ os) less =
    round_no_more (around a o) (around b o) os
    (inside_no_more (beside (size_among o.parts) a) (beside (size_among o.parts) b)
    (beside_no_more (size_among o.parts) a b less))

so_far_no_more : (a b : Size) (top : List CarriedTree) (os : List OpenNode) → IsNoMore a b
    → IsNoMore (size_with a top os) (size_with b top os)
so_far_no_more a b top os less = by (length top == 0)
  where
    round : IsNoMore (fold around a os) (fold around b os)
    round = round_no_more a b os less

    whole : Size → Size
    whole s = inside (beside (size_among top) s)

    by : (none : Bool) → IsNoMore (cond none (fold around a os) (inside (beside (size_among top) (fold around a os))))
        (cond none (fold around b os) (inside (beside (size_among top) (fold around b os))))
    by true = round
    by false =
        inside_no_more (beside (size_among top) (fold around a os)) (beside (size_among top) (fold around b os))
        (beside_no_more (size_among top) (fold around a os) (fold around b os) round)

-- ---- the limits

test_no_more : (limit m n : ℕ) → m ≤ n → nat_lt limit n ≡ false → nat_lt limit m ≡ false
test_no_more limit m n less within = grind (arith, nat_tests)

pub neither : (deep many : Bool) → cond deep (Some C1) (cond many (Some C2) None) ≡ None
    → (deep ≡ false) × (many ≡ false)
neither true many none = cc
neither false true none = cc
neither false false none = (refl, refl)

over_neither : (deep many : Bool) → deep ≡ false → many ≡ false → cond deep (Some C1) (cond many (Some C2) None) ≡ None
over_neither deep many first second = rw (first, second) refl

within_no_more : (a b : Size) → IsNoMore a b → over b ≡ None → over a ≡ None
within_no_more a b less within =
    let parts = neither (nat_lt 32 b.depth) (nat_lt 4096 b.leaves) within in
    over_neither (nat_lt 32 a.depth) (nat_lt 4096 a.leaves)
    (test_no_more 32 a.depth b.depth less.depth parts.0) (test_no_more 4096 a.leaves b.leaves less.leaves parts.1)

-- what was read so far is within the limits where a node of this size is put into it
abbrev pub IsWithin : Size → List CarriedTree → List OpenNode → Type 0
IsWithin size top os = over (size_with size top os) ≡ None

pub smaller_is_within : (a b : Size) (top : List CarriedTree) (os : List OpenNode) → IsNoMore a b → IsWithin b top os
    → IsWithin a top os
smaller_is_within a b top os less within =
    within_no_more (size_with a top os) (size_with b top os) (so_far_no_more a b top os less) within

-- ---- fewer parts

depth_front : (xs ys : List CarriedTree) → depth_among xs ≤ depth_among (xs ++ ys)
depth_front [] ys = omega arith
depth_front (x ∷ xs) ys = omega (arith, depth_front xs ys)

leaves_front : (xs ys : List CarriedTree) → leaves_among xs ≤ leaves_among (xs ++ ys)
leaves_front [] ys = omega arith
leaves_front (x ∷ xs) ys = omega (arith, leaves_front xs ys)

among_front : (xs ys : List CarriedTree) → IsNoMore (size_among xs) (size_among (xs ++ ys))
among_front xs ys =
    let depth = depth_front xs ys in let leaves = leaves_front xs ys in
    record { depth = omega arith; leaves = omega arith }

-- a node of the first parts
pub front_no_more : (kind : NodeKind) (xs ys : List CarriedTree)
    → IsNoMore (size_of (node_of_kind kind xs)) (size_of (node_of_kind kind (xs ++ ys)))
front_no_more kind xs ys =
    rw (size-node kind xs, size-node kind (xs ++ ys))
    (inside_no_more (size_among xs) (size_among (xs ++ ys)) (among_front xs ys))

empty_no_more : (s : Size) → IsNoMore size_of_empty (inside s)
empty_no_more s = record { depth = omega arith; leaves = one_no_more 0 s.leaves (omega arith) }

-- a node without parts
pub none_no_more : (kind : NodeKind) (xs : List CarriedTree) → IsNoMore size_of_empty (size_of (node_of_kind kind xs))
none_no_more kind xs = rw (size-node kind xs) (empty_no_more (size_among xs))

-- A tree within the limits on depth and leaves is within them while it is read.
use Rattle.std.proofs.Common.{◌≡◌, ℕ, ◌≤◌, nat_lt, Bool, false, cond, None, Some, [], arith, refl, ◌∙◌}
use Rattle.std.proofs.lemmas.Bool.Decides.{nat_tests}
use Rattle.iocm_types.specs.declared.rule.Rule.TheVariants.{C1, C2}
use Rattle.iocm_model.specs.Change.Tree.{depth_of, leaves_of, most_depth, most_leaves}
use Rattle.iocm_tree.specs.Trees.{CarriedTree, plain_tree}
use Rattle.iocm_tree_reader.specs.Sizes.{size_of}
use Rattle.iocm_tree_reader.proofs.Limits.{over-size}
use Rattle.iocm_tree_writer.proofs.Sizes.{IsWithin}

not_over : (most n : ℕ) → n ≤ most → nat_lt most n ≡ false
not_over most n within = grind (arith, nat_tests)

neither_is_over : (deep many : Bool) → deep ≡ false → many ≡ false
    → cond deep (Some C1) (cond many (Some C2) None) ≡ None
neither_is_over deep many first second = rw (first, second) refl

pub tree_is_within : (t : CarriedTree) → depth_of (plain_tree t) ≤ most_depth → leaves_of (plain_tree t) ≤ most_leaves
    → IsWithin (size_of t) [] []
tree_is_within t depth leaves =
    over-size t
    ∙ neither_is_over (nat_lt most_depth (depth_of (plain_tree t))) (nat_lt most_leaves (leaves_of (plain_tree t)))
    (not_over most_depth (depth_of (plain_tree t)) depth) (not_over most_leaves (leaves_of (plain_tree t)) leaves)

-- The tree of the number is there, and is copied; or there is none.
use Rattle.std.proofs.Common.{map, sym, ap, ◌∙◌}
use Rattle.iocm_tree.proofs.Trees.{tree-Row}
use Rattle.iocm_tree.specs.Trees.{parts_from, plain_tree, row, tree_of}
use Rattle.iocm_operation.specs.Asked.{trees_in}
use Rattle.iocm_operation.specs.Saying.{tree_at}
use Rattle.iocm_operation.proofs.Asked.{copied_is, no_tree_there, tree_there}
use Rattle.iocm_operation.proofs.asking.copied.Goals as goal

pub returns-in-Some : goal.returns-in-Some
returns-in-Some c =
    copied_is c.copy_in.result c.in-Some.tree.now (tree_at (trees_in c.args.trees.now) c.args.number) c.copy_in.ensures
    (tree_there c.args.trees.now c.args.number c.saturating_sub.result c.in-Some.tree.now c.saturating_sub.ensures
    c.in-Some.ensures.lookup.0 c.in-Some.ensures.lookup.1)

pub returns-in-None : goal.returns-in-None
returns-in-None c =
    ap plain_tree (tree-Row c.new.result ∙ ap (λ ts. row (parts_from (map tree_of ts))) c.new.ensures.items)
    ∙ sym (no_tree_there c.args.trees.now c.args.number c.saturating_sub.result c.saturating_sub.ensures
    c.in-None.ensures.lookup.0)

use Rattle.std.proofs.Common.{◌≤◌, length, ap, sym, ◌∙◌, arith, rules}
use Rattle.iocm_tree.specs.Trees.{row, group, choose}
use Rattle.iocm_tree.proofs.Trees.{nodes_of_part, copied_more, copied_all, tree-Row, tree-Group, tree-Choose}
use Rattle.iocm_tree.proofs.tree.copying.+copying.Goals as goal

pub copy_parts-copy_tree-requires : goal.copy_parts-copy_tree-requires
copy_parts-copy_tree-requires g t c κs within =
    let fewer = nodes_of_part c.deref-part-items.result.now c.args.parts.now.items c.deref-part-items.ensures.value
    c.loop-part.part-index c.part-item.result c.loop-part-test.true c.part-item.is in
    search rules

pub copy_parts-loop-part-preserved : goal.copy_parts-loop-part-preserved
copy_parts-loop-part-preserved g t c =
    copied_more c.deref-part-items.result.now c.args.parts.now.items c.deref-part-items.ensures.value
    c.loop-part.part-index c.part-item.result c.loop-part-test.true c.part-item.is
    c.loop-part.copies.items c.push.new.self.items c.in_ok-copy.copy c.in_ok-push.ensures.items c.in_ok-copy.ensures
    c.loop-part.invariant

pub copy_parts-returns : goal.copy_parts-returns
copy_parts-returns g t c =
    let past : length c.deref-part-items.result.now ≤ c.loop-part.part-index = omega (arith, c.loop-part-test.false) in
    copied_all c.deref-part-items.result.now c.args.parts.now.items c.deref-part-items.ensures.value
    c.loop-part.part-index past c.loop-part.copies.items c.loop-part.invariant

pub copy_tree-returns-in_ok-copy_parts-in-Row : goal.copy_tree-returns-in_ok-copy_parts-in-Row
copy_tree-returns-in_ok-copy_parts-in-Row g t c =
    rw c.in-Row.is (tree-Row _ ∙ ap row c.in_ok-copy_parts-in-Row.ensures ∙ sym (tree-Row _))

pub copy_tree-returns-in_ok-copy_parts-in-Group : goal.copy_tree-returns-in_ok-copy_parts-in-Group
copy_tree-returns-in_ok-copy_parts-in-Group g t c =
    rw c.in-Group.is (tree-Group _ ∙ ap group c.in_ok-copy_parts-in-Group.ensures ∙ sym (tree-Group _))

pub copy_tree-returns-in_ok-copy_parts-in-Choose :
    goal.copy_tree-returns-in_ok-copy_parts-in-Choose
copy_tree-returns-in_ok-copy_parts-in-Choose g t c =
    rw c.in-Choose.is (tree-Choose _ ∙ ap choose c.in_ok-copy_parts-in-Choose.ensures ∙ sym (tree-Choose _))

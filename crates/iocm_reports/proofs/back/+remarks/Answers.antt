use Rattle.std.proofs.Common.{◌≤◌, ◌++◌, length, arith, rules}
use Rattle.iocm_tree.specs.Trees.{parts_of, plain_parts}
use Rattle.iocm_tree.proofs.Trees.{nodes_of_part}
use Rattle.iocm_reports.specs.WayBack.{told_among}
use Rattle.iocm_reports.proofs.Printed.{one_more_put, all_put}
use Rattle.iocm_reports.proofs.back.+remarks.Goals as goal

pub put_parts-put_tree-requires : goal.put_parts-put_tree-requires
put_parts-put_tree-requires g t c κs within =
    let fewer = nodes_of_part c.deref-part-items.result.now c.args.parts.now.items c.deref-part-items.ensures.value
    c.loop-part.part-index c.part-item.result c.loop-part-test.true c.part-item.is in
    search rules

pub put_parts-loop-part-preserved : goal.put_parts-loop-part-preserved
put_parts-loop-part-preserved g t c =
    one_more_put c.args.form c.deref-part-items.result.now c.loop-part.part-index c.part-item.result c.loop-part-test.true
    c.part-item.is c.loop-part.text.items c.put_tree.new.text.items
    (c.args.text.now.items ++ told_among c.args.form (plain_parts (parts_of c.args.parts.now.items))) c.in_ok-put_tree.ensures
    c.loop-part.invariant

pub put_parts-returns : goal.put_parts-returns
put_parts-returns g t c =
    let past : length c.deref-part-items.result.now ≤ c.loop-part.part-index = omega (arith, c.loop-part-test.false) in
    all_put c.args.form c.deref-part-items.result.now c.loop-part.part-index past c.loop-part.text.items
    (c.args.text.now.items ++ told_among c.args.form (plain_parts (parts_of c.args.parts.now.items))) c.loop-part.invariant

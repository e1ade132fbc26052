use Rattle.std.proofs.Common.{◌≡◌, [], map, sym, ap, arith}
use Rattle.std.specs.Vec.{vec_capacity}
use Rattle.iocm_tree.specs.Trees.{tree_of}
use Rattle.iocm_stage.proofs.Copied.{none_more, all_copied}
use Rattle.iocm_stage.proofs.Lists.{map_last}
use Rattle.iocm_stage.proofs.copies.edits_from.Goals as goal

pub loop-part-preserved : goal.loop-part-preserved
loop-part-preserved c = none_more (map tree_of c.args.parts.items) (map tree_of c.loop-part.parts.items)
    (map tree_of c.pop.new.self.items) (tree_of c.in-Some.part)
    c.loop-part.edits.items (vec_capacity c.loop-part.edits) c.loop-part.invariant
    (map_last tree_of c.loop-part.parts.items c.pop.new.self.items c.in-Some.part c.in-Some.ensures.items)
    (sym c.in_default-into_edit.ensures)

pub returns : goal.returns
returns c =
    let none : c.loop-part.parts.items ≡ [] =
    grind (c.in_default.ensures.variant, c.in_default.is, c.loop-part.parts.ok.0, arith) in
    all_copied (map tree_of c.args.parts.items) (map tree_of c.loop-part.parts.items) c.loop-part.edits.items
    (vec_capacity c.loop-part.edits) c.loop-part.invariant (ap (map tree_of) none)

use Rattle.std.proofs.Common.{◌≡◌, [], map, reverse, sym, ap, arith}
use Rattle.iocm_tree.specs.Trees.{tree_of}
use Rattle.iocm_stage.proofs.EditsLeft.{part_can, part_taken, is_edit, all_taken_back}
use Rattle.iocm_stage.proofs.Lists.{map_reverse_last}
use Rattle.iocm_stage.proofs.performing.take_back.Goals as goal

pub unapply-again-requires : goal.unapply-again-requires
unapply-again-requires c = part_can c.args.plant.now c.loop-part.plant (tree_of c.args.inverse)
    (tree_of c.in-Some-pop.part) (map tree_of (reverse c.loop-part.parts.items))
    (map tree_of (reverse c.pop.new.self.items)) c.loop-part.invariant
    (map_reverse_last tree_of c.loop-part.parts.items c.pop.new.self.items c.in-Some-pop.part
    c.in-Some-pop.ensures.items) c.in-Some-into_edit.edit (sym c.in-Some-into_edit.ensures)

pub loop-part-preserved : goal.loop-part-preserved
loop-part-preserved c = absurd
    (is_edit c.args.plant.now c.loop-part.plant (tree_of c.args.inverse) (tree_of c.in-Some-pop.part)
    (map tree_of (reverse c.loop-part.parts.items))
    (map tree_of (reverse c.pop.new.self.items)) c.loop-part.invariant
    (map_reverse_last tree_of c.loop-part.parts.items c.pop.new.self.items c.in-Some-pop.part
    c.in-Some-pop.ensures.items) (sym c.in_default-into_edit.ensures))

pub returns-clause-state : goal.returns-clause-state
returns-clause-state c =
    let none : c.loop-part.parts.items ≡ [] =
    grind (c.in_default-pop.ensures.variant, c.in_default-pop.is, c.loop-part.parts.ok.0, arith) in
    all_taken_back c.args.plant.now c.loop-part.plant (tree_of c.args.inverse)
    (map tree_of (reverse c.loop-part.parts.items)) c.loop-part.invariant
    (ap (λ xs. map tree_of (reverse xs)) none)

pub loop-part-preserved-in-Some-into_edit :
    goal.loop-part-preserved-in-Some-into_edit
loop-part-preserved-in-Some-into_edit c = part_taken c.args.plant.now c.loop-part.plant (tree_of c.args.inverse)
    (tree_of c.in-Some-pop.part)
    (map tree_of (reverse c.loop-part.parts.items)) (map tree_of (reverse c.pop.new.self.items)) c.loop-part.invariant
    (map_reverse_last tree_of c.loop-part.parts.items c.pop.new.self.items c.in-Some-pop.part
    c.in-Some-pop.ensures.items) c.in-Some-into_edit.edit (sym c.in-Some-into_edit.ensures)
    c.unapply-again.new.self c.unapply-again.ensures.state c.unapply-again.ensures.room

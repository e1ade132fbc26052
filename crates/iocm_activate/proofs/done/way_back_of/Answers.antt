use Rattle.std.proofs.Common.{◌≡◌, [], arith}
use Rattle.iocm_activate.proofs.Telling.{turns_first, one_turned, has_room, row_told}
use Rattle.iocm_activate.proofs.done.way_back_of.Goals as goal

pub loop-applied-init : goal.loop-applied-init
loop-applied-init c = turns_first c.args.done.items c.args.parts c.requires.parts c.requires.room

pub push_reserved-requires : goal.push_reserved-requires
push_reserved-requires c =
    let room = has_room c.args.done.items c.loop-applied.leaves c.loop-applied.done.items c.pop.new.self.items
    c.in-Some.applied
    c.loop-applied.invariant c.in-Some.ensures.items in
    grind (arith, room, c.loop-applied.leaves.ok.0)

pub loop-applied-preserved : goal.loop-applied-preserved
loop-applied-preserved c = one_turned c.args.done.items c.loop-applied.leaves c.push_reserved.new.self
    c.loop-applied.done.items c.pop.new.self.items c.in-Some.applied
    c.loop-applied.invariant c.in-Some.ensures.items c.push_reserved.ensures.items c.push_reserved.ensures.capacity

pub returns : goal.returns
returns c =
    let none : c.loop-applied.done.items ≡ [] =
    grind (c.in_default.ensures.variant, c.in_default.is, c.loop-applied.done.ok.0, arith) in
    row_told c.args.done.items c.loop-applied.leaves c.loop-applied.done.items c.loop-applied.invariant none

use Rattle.std.proofs.Common.{◌≡◌, [], ◌∙◌, arith}
use Rattle.iocm_activate.proofs.Telling.{tells_first, one_told, has_room, has_more_room, row_told, touched_told}
use Rattle.iocm_activate.proofs.done.tell.Goals as goal

pub loop-applied-init : goal.loop-applied-init
loop-applied-init c =
    tells_first c.args.done.items c.args.prepared.parts c.args.prepared.performed c.requires.parts c.requires.performed
    c.requires.room c.requires.more_room

pub push_reserved-requires : goal.push_reserved-requires
push_reserved-requires c =
    let room = has_room c.args.done.items c.loop-applied.parts c.loop-applied.done.items c.pop.new.self.items
    c.in-Some.applied
    c.loop-applied.invariant.turning c.in-Some.ensures.items in
    grind (arith, room, c.loop-applied.parts.ok.0)

pub push_reserved-requires-in-Some : goal.push_reserved-requires-in-Some
push_reserved-requires-in-Some c =
    let room = has_more_room c.args.done.items c.loop-applied.parts c.loop-applied.performed c.loop-applied.done.items
    c.pop.new.self.items c.in-Some.applied
    c.loop-applied.invariant c.in-Some.ensures.items in
    grind (arith, room, c.loop-applied.performed.ok.0)

pub loop-applied-preserved : goal.loop-applied-preserved
loop-applied-preserved c =
    one_told c.args.done.items c.loop-applied.parts c.push_reserved.new.self c.loop-applied.performed
    c.push_reserved-in-Some.new.self
    c.loop-applied.done.items c.pop.new.self.items
    c.in-Some.applied c.loop-applied.invariant c.in-Some.ensures.items c.push_reserved.ensures.items
    c.push_reserved.ensures.capacity
    c.push_reserved-in-Some.ensures.items c.push_reserved-in-Some.ensures.capacity

pub returns-clause-inverse : goal.returns-clause-inverse
returns-clause-inverse c =
    let none : c.loop-applied.done.items ≡ [] =
    grind (c.in_default.ensures.variant, c.in_default.is, c.loop-applied.done.ok.0, arith) in
    row_told c.args.done.items c.loop-applied.parts c.loop-applied.done.items c.loop-applied.invariant.turning none

pub returns-clause-performed : goal.returns-clause-performed
returns-clause-performed c =
    let none : c.loop-applied.done.items ≡ [] =
    grind (c.in_default.ensures.variant, c.in_default.is, c.loop-applied.done.ok.0, arith) in
    c.reverse.ensures.items ∙ touched_told c.args.done.items c.loop-applied.parts c.loop-applied.performed
    c.loop-applied.done.items c.loop-applied.invariant
    none

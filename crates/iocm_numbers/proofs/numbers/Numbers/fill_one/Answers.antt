-- A device that comes in finds a number free, which no device has.
use Rattle.std.proofs.Common.{arith, ◌≡◌, ◌<◌, true, false, refl, None, sym, ap, ◌∙◌}
use Rattle.std.specs.FinMap.{get}
use Rattle.iocm_types.proofs.Tests.{absent}
use Rattle.iocm_model.specs.Machine.Numbering.{Numbering, device_at}
use Rattle.iocm_model.proofs.Numbers.Changed.{comes_new}
use Rattle.iocm_numbers.specs.Numbered.{cell_at}
use Rattle.iocm_numbers.proofs.Counting.{room_for_one}
use Rattle.iocm_numbers.proofs.Lowest.{lowest_cell_free}
use Rattle.iocm_numbers.proofs.numbers.Numbers.fill_one.Goals as goal

pub unreachable-requires : goal.unreachable-requires
unreachable-requires g c =
    let p = c.args.place.now in
    let n = c.args.self.now.numbers in
    let none : get n p ≡ None =
    absent (get n p) (comes_new c.args.walk.now n (p, 0) (sym c.comes_in.ensures.needs ∙ c.if-not-comes_in.false))
    in
    let low : p.device < 65536 = omega (arith, c.number-device.ensures, c.number-device.type_inv) in
    let found : false ≡ true =
    c.in_default.ensures.found (room_for_one n p.css p.set p refl refl none low c.are_apart.ensures.small) in cc

pub place-requires-clause-free : goal.place-requires-clause-free
place-requires-clause-free g c =
    ap (λ (m : Numbering). device_at m (cell_at c.args.place.now c.in-Some.number)) c.room.ensures.numbers
    ∙ ap (λ k. device_at c.args.self.now.numbers (cell_at c.args.place.now k)) c.in-Some.ensures.some
    ∙ lowest_cell_free c.args.self.now.numbers c.args.place.now

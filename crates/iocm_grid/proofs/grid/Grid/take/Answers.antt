use Rattle.std.proofs.Common.{◌≡◌, ◌-◌, ◌≤◌, None, Some, sym, ap, subst, ◌∙◌}
use Rattle.std.specs.FinMap.{get, remove}
use Rattle.std.specs.Option.{option_copied_mut, option_flatten}
use Rattle.iocm_grid.specs.Gridded.{IsCounted, gridded}
use Rattle.iocm_grid.specs.Levels.{slot_at, written}
use Rattle.iocm_grid.proofs.Counting.{one_at_least}
use Rattle.iocm_grid.proofs.Lending.{given, had_row, row_taken, taken_counted, places_stay}
use Rattle.iocm_grid.proofs.Looking.{row_at}
use Rattle.iocm_grid.proofs.Writing.{untaken}
use Rattle.iocm_grid.proofs.grid.Grid.take.Goals as goal

pub returns-in_err-slot-clause-before : goal.returns-in_err-slot-clause-before
returns-in_err-slot-clause-before g c =
    c.from_residual.ensures ∙ ap option_flatten
    (ap option_copied_mut (sym c.in_err-slot.was) ∙ c.slot_mut.ensures.value)
    ∙ sym (row_at c.self.inside.levels c.args.key.now) ∙ ap (λ s. get s.rows c.args.key.now) c.self.view_is

pub returns-in_err-slot-clause-rows : goal.returns-in_err-slot-clause-rows
returns-in_err-slot-clause-rows g c = ap (λ l. (gridded l).rows) c.slot_mut.follows.holds-at-none
    ∙ untaken c.self.inside.levels c.args.key.now
    (ap option_flatten (sym c.slot_mut.ensures.value ∙ ap option_copied_mut c.in_err-slot.was))
    ∙ ap (λ s. remove s.rows c.args.key.now) c.self.view_is

pub overflow_sub-self : goal.overflow_sub-self
overflow_sub-self g c =
    let levels = c.self.inside.levels in
    let found : slot_at levels c.args.key.now ≡ Some c.take-before.result =
    sym (ap Some c.take-before.ensures.value ∙ c.in_ok-slot.ensures.value) in
    subst (λ n. n ≤ c.self.inside.len) (sym c.one_if.ensures.value)
    (one_at_least (gridded levels).rows c.args.key.now c.take-before.result
    (had_row levels (c.slot_mut.follows.lender c.take-before.new.self) c.args.key.now c.slot_mut.ensures.in_range
    c.take-before.result found c.self.inside.len c.self.invariant)
    c.self.inside.len c.self.invariant.counted c.is_some.result c.is_some.ensures)

pub invariant_of-self-2 : goal.invariant_of-self-2
invariant_of-self-2 g c =
    let levels = c.self.inside.levels in
    let found : slot_at levels c.args.key.now ≡ Some c.take-before.result =
    sym (ap Some c.take-before.ensures.value ∙ c.in_ok-slot.ensures.value) in
    let now = c.slot_mut.follows.lender c.take-before.new.self in
    let is_now : now ≡ written levels c.args.key.now None =
    given c.slot_mut.result c.in_ok-slot.slot c.in_ok-slot.was (c.slot_mut.follows.holds c.take-before.new.self)
    ∙ ap (written levels c.args.key.now) c.take-before.ensures.after in
    subst (λ n. IsCounted now (c.self.inside.len - n)) (sym c.one_if.ensures.value)
    (taken_counted levels now c.args.key.now c.slot_mut.ensures.in_range c.take-before.result found c.self.inside.len
    c.self.invariant
    c.is_some.result c.is_some.ensures is_now)

pub returns-clause-before : goal.returns-clause-before
returns-clause-before g c = ap option_flatten (ap Some c.take-before.ensures.value ∙ c.in_ok-slot.ensures.value)
    ∙ sym (row_at c.self.inside.levels c.args.key.now) ∙ ap (λ s. get s.rows c.args.key.now) c.self.view_is

pub returns-clause-rows : goal.returns-clause-rows
returns-clause-rows g c =
    let levels = c.self.inside.levels in
    let now = c.slot_mut.follows.lender c.take-before.new.self in
    row_taken levels now c.args.key.now c.slot_mut.ensures.in_range c.take-before.result
    (sym (ap Some c.take-before.ensures.value ∙ c.in_ok-slot.ensures.value)) c.self.inside.len c.self.invariant
    (given c.slot_mut.result c.in_ok-slot.slot c.in_ok-slot.was (c.slot_mut.follows.holds c.take-before.new.self)
    ∙ ap (written levels c.args.key.now) c.take-before.ensures.after)
    ∙ ap (λ s. remove s.rows c.args.key.now) c.self.view_is

pub returns-clause-places : goal.returns-clause-places
returns-clause-places g c =
    let levels = c.self.inside.levels in
    let now = c.slot_mut.follows.lender c.take-before.new.self in
    places_stay levels now c.args.key.now c.slot_mut.ensures.in_range c.take-before.result
    (sym (ap Some c.take-before.ensures.value ∙ c.in_ok-slot.ensures.value)) c.self.inside.len c.self.invariant
    c.take-before.new.self
    (given c.slot_mut.result c.in_ok-slot.slot c.in_ok-slot.was (c.slot_mut.follows.holds c.take-before.new.self))
    ∙ ap (λ s. s.places) c.self.view_is

use Rattle.std.proofs.Common.{◌≡◌, ◌+◌, true, false, Some, is_some, sym, ap, subst, ◌∙◌, arith}
use Rattle.std.specs.FinMap.{get, insert}
use Rattle.std.specs.Option.{option_copied_mut, option_flatten}
use Rattle.iocm_grid.specs.Gridded.{HasPlace, IsCounted}
use Rattle.iocm_grid.specs.Levels.{slot_at, written}
use Rattle.iocm_grid.proofs.Counting.{few_rows}
use Rattle.iocm_grid.proofs.Lending.{given, row_written, row_counted, places_stay}
use Rattle.iocm_grid.proofs.Looking.{row_at, has_slot}
use Rattle.iocm_grid.proofs.grid.Grid.put.Goals as goal

pub unreachable-requires : goal.unreachable-requires
unreachable-requires g c =
    let found = has_slot c.self.inside.levels c.args.key.now
    (subst (λ s. HasPlace s c.args.key.now) (sym c.self.view_is) c.requires) in
    let none : is_some (slot_at c.self.inside.levels c.args.key.now) ≡ false =
    ap is_some (sym c.slot_mut.ensures.value ∙ ap option_copied_mut c.in_default.is) in
    let bad : false ≡ true = sym none ∙ found in cc

pub overflow_add-self : goal.overflow_add-self
overflow_add-self g c =
    let few = few_rows _ c.self.invariant.in_range in let counted = c.self.invariant.counted in
    omega (arith, c.one_if.ensures.small)

pub invariant_of-self : goal.invariant_of-self
invariant_of-self g c =
    let levels = c.self.inside.levels in
    let found : slot_at levels c.args.key.now ≡ Some c.replace-before.result =
    sym (ap Some c.replace-before.ensures.value ∙ c.in-Some.ensures.value) in
    let now = c.slot_mut.follows.lender c.replace-before.new.self in
    let is_now : now ≡ written levels c.args.key.now (Some c.args.row) =
    given c.slot_mut.result c.in-Some.slot c.in-Some.is (c.slot_mut.follows.holds c.replace-before.new.self)
    ∙ ap (written levels c.args.key.now) c.replace-before.ensures.after in
    subst (λ n. IsCounted now (c.self.inside.len + n)) (sym c.one_if.ensures.value)
    (row_counted levels now c.args.key.now c.slot_mut.ensures.in_range c.replace-before.result found c.self.inside.len
    c.self.invariant
    c.args.row c.is_none.result c.is_none.ensures is_now)

pub returns-clause-before : goal.returns-clause-before
returns-clause-before g c = ap option_flatten (ap Some c.replace-before.ensures.value ∙ c.in-Some.ensures.value)
    ∙ sym (row_at c.self.inside.levels c.args.key.now) ∙ ap (λ s. get s.rows c.args.key.now) c.self.view_is

pub returns-clause-rows : goal.returns-clause-rows
returns-clause-rows g c =
    let levels = c.self.inside.levels in
    let now = c.slot_mut.follows.lender c.replace-before.new.self in
    row_written levels now c.args.key.now c.slot_mut.ensures.in_range c.replace-before.result
    (sym (ap Some c.replace-before.ensures.value ∙ c.in-Some.ensures.value)) c.self.inside.len c.self.invariant
    c.args.row
    (given c.slot_mut.result c.in-Some.slot c.in-Some.is (c.slot_mut.follows.holds c.replace-before.new.self)
    ∙ ap (written levels c.args.key.now) c.replace-before.ensures.after)
    ∙ ap (λ s. insert s.rows c.args.key.now c.args.row) c.self.view_is

pub returns-clause-places : goal.returns-clause-places
returns-clause-places g c =
    let levels = c.self.inside.levels in
    let now = c.slot_mut.follows.lender c.replace-before.new.self in
    places_stay levels now c.args.key.now c.slot_mut.ensures.in_range c.replace-before.result
    (sym (ap Some c.replace-before.ensures.value ∙ c.in-Some.ensures.value)) c.self.inside.len c.self.invariant
    c.replace-before.new.self
    (given c.slot_mut.result c.in-Some.slot c.in-Some.is (c.slot_mut.follows.holds c.replace-before.new.self))
    ∙ ap (λ s. s.places) c.self.view_is

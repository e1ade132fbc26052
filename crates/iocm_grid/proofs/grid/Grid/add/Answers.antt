use Rattle.std.proofs.Common.{◌≡◌, ◌+◌, List, Some, T, is_some, sym, ap, subst, ◌∙◌, arith}
use Rattle.std.specs.FinMap.{get, insert}
use Rattle.std.specs.List.{list_any}
use Rattle.std.specs.Option.{option_flatten}
use Rattle.std.specs.Ordering.{eq_by_cmp}
use Rattle.iocm_types.specs.declared.sub_id.SubId.{SubId}
use Rattle.iocm_types.specs.SubId.{sub_id_cmp}
use Rattle.iocm_grid.specs.Gridded.{HasPlace, IsCounted, gridded}
use Rattle.iocm_grid.specs.Levels.{slot_at, written}
use Rattle.iocm_grid.proofs.Counting.{few_rows}
use Rattle.iocm_grid.proofs.Lending.{given, row_written, row_counted, places_stay}
use Rattle.iocm_grid.proofs.Looking.{row_at, has_place}
use Rattle.iocm_grid.proofs.grid.Grid.add.Goals as goal

-- a subchannel is among these places
abbrev is_at : SubId → List SubId → Type 0
is_at x places = T (list_any (eq_by_cmp sub_id_cmp x) places)

-- where the subchannel has no place, the grid is as it was
pub returns-in_err-room-clause-kept : goal.returns-in_err-room-clause-kept
returns-in_err-room-clause-kept g c x had =
    c.room.ensures.kept x (subst (λ s. HasPlace s x)
    (sym (ap gridded c.slot_mut.follows.holds-at-none ∙ c.self.view_is)) had)

pub returns-in_default-clause-kept : goal.returns-in_default-clause-kept
returns-in_default-clause-kept g c x had = subst (is_at x) (sym c.put.ensures.places)
    (c.room.ensures.kept x (subst (λ s. HasPlace s x)
    (sym (ap gridded c.slot_mut.follows.holds-at-none ∙ c.self.view_is)) had))

pub overflow_add-self : goal.overflow_add-self
overflow_add-self g c =
    let few = few_rows _ c.self.invariant.in_range in let counted = c.self.invariant.counted in
    omega (arith, c.one_if.ensures.small)

pub invariant_of-self-2 : goal.invariant_of-self-2
invariant_of-self-2 g c =
    let levels = c.self.inside.levels in
    let found : slot_at levels c.args.key.now ≡ Some c.replace-had.result =
    sym (ap Some c.replace-had.ensures.value ∙ c.in-Some.ensures.value) in
    let now = c.slot_mut.follows.lender c.replace-had.new.self in
    let is_now : now ≡ written levels c.args.key.now (Some c.args.row) =
    given c.slot_mut.result c.in-Some.own c.in-Some.is (c.slot_mut.follows.holds c.replace-had.new.self)
    ∙ ap (written levels c.args.key.now) c.replace-had.ensures.after in
    subst (λ n. IsCounted now (c.self.inside.len + n)) (sym c.one_if.ensures.value)
    (row_counted levels now c.args.key.now c.slot_mut.ensures.in_range c.replace-had.result found c.self.inside.len
    c.self.invariant
    c.args.row c.is_none.result c.is_none.ensures is_now)

pub returns-clause-before : goal.returns-clause-before
returns-clause-before g c = ap option_flatten (ap Some c.replace-had.ensures.value ∙ c.in-Some.ensures.value)
    ∙ sym (row_at c.self.inside.levels c.args.key.now) ∙ ap (λ s. get s.rows c.args.key.now) c.self.view_is

pub returns-clause-rows : goal.returns-clause-rows
returns-clause-rows g c =
    let levels = c.self.inside.levels in
    let now = c.slot_mut.follows.lender c.replace-had.new.self in
    row_written levels now c.args.key.now c.slot_mut.ensures.in_range c.replace-had.result
    (sym (ap Some c.replace-had.ensures.value ∙ c.in-Some.ensures.value)) c.self.inside.len c.self.invariant c.args.row
    (given c.slot_mut.result c.in-Some.own c.in-Some.is (c.slot_mut.follows.holds c.replace-had.new.self)
    ∙ ap (written levels c.args.key.now) c.replace-had.ensures.after)
    ∙ ap (λ s. insert s.rows c.args.key.now c.args.row) c.self.view_is

pub returns-clause-ok : goal.returns-clause-ok
returns-clause-ok g c =
    let levels = c.self.inside.levels in
    let now = c.slot_mut.follows.lender c.replace-had.new.self in
    let found : slot_at levels c.args.key.now ≡ Some c.replace-had.result =
    sym (ap Some c.replace-had.ensures.value ∙ c.in-Some.ensures.value) in
    let stay = places_stay levels now c.args.key.now c.slot_mut.ensures.in_range c.replace-had.result found
    c.self.inside.len c.self.invariant c.replace-had.new.self
    (given c.slot_mut.result c.in-Some.own c.in-Some.is (c.slot_mut.follows.holds c.replace-had.new.self)) in
    subst (is_at c.args.key.now) (sym stay) (has_place levels c.args.key.now (ap is_some found))

pub returns-clause-kept : goal.returns-clause-kept
returns-clause-kept g c x had =
    let levels = c.self.inside.levels in
    let now = c.slot_mut.follows.lender c.replace-had.new.self in
    let found : slot_at levels c.args.key.now ≡ Some c.replace-had.result =
    sym (ap Some c.replace-had.ensures.value ∙ c.in-Some.ensures.value) in
    let stay = places_stay levels now c.args.key.now c.slot_mut.ensures.in_range c.replace-had.result found
    c.self.inside.len c.self.invariant c.replace-had.new.self
    (given c.slot_mut.result c.in-Some.own c.in-Some.is (c.slot_mut.follows.holds c.replace-had.new.self)) in
    subst (is_at x) (sym stay) (subst (λ s. HasPlace s x) (sym c.self.view_is) had)

use Rattle.std.proofs.Common.{◌≡◌, true, false, Option, Some, None, is_some, refl, sym, ap, subst, ◌∙◌}
use Rattle.std.specs.Borrow.{Bor}
use Rattle.std.specs.Option.{option_copied}
use Rattle.std.specs.FinMap.{len, contains_key}
use Rattle.std.proofs.lemmas.Result.{on_ok_weaker}
use Rattle.iocm_grid.specs.Gridded.{HasPlace}
use Rattle.iocm_grid.proofs.Adding.{rows_stay, slots_kept}
use Rattle.iocm_grid.proofs.Looking.{has_slot, has_place}
use Rattle.iocm_grid.proofs.grid.Grid.room.Goals as goal

pub invariant_of-self : goal.invariant_of-self
invariant_of-self g c =
    let stay = rows_stay c.self.inside.levels c.make_place.new.levels c.make_place.ensures.kept in record {
      counted = c.self.invariant.counted ∙ ap len (sym stay);
      in_range = λ x has. c.self.invariant.in_range x (ap (λ rows. contains_key rows x) (sym stay) ∙ has);
    }

pub returns-clause-rows : goal.returns-clause-rows
returns-clause-rows g c =
    rows_stay c.self.inside.levels c.make_place.new.levels c.make_place.ensures.kept ∙ ap (λ s. s.rows) c.self.view_is

pub returns-clause-ok : goal.returns-clause-ok
returns-clause-ok g c = on_ok_weaker c.make_place.result (has_place c.make_place.new.levels c.args.key.now)
    c.make_place.ensures.ok

pub returns-clause-kept : goal.returns-clause-kept
returns-clause-kept g c x had = has_place c.make_place.new.levels x (slots_kept c.make_place.ensures.kept x
    (has_slot c.self.inside.levels x (subst (λ s. HasPlace s x) (sym c.self.view_is) had)))

-- whether there is something to which a reference is
is_there : {T : Type 0} (o : Option (Bor T)) → is_some (option_copied o) ≡ is_some o
is_there None = refl
is_there (Some r) = refl

-- a subchannel that has a slot has a place
pub returns-then-is_some-clause-ok : goal.returns-then-is_some-clause-ok
returns-then-is_some-clause-ok g c = subst (λ s. HasPlace s c.args.key.now) c.self.view_is
    (has_place c.self.inside.levels c.args.key.now
    (ap is_some (sym c.slot.ensures) ∙ is_there c.slot.result ∙ sym c.is_some.ensures ∙ c.if-is_some.true))

-- and one that has none had no place
pub returns-clause-succeeds : goal.returns-clause-succeeds
returns-clause-succeeds g c had =
    let found = has_slot c.self.inside.levels c.args.key.now
    (subst (λ s. HasPlace s c.args.key.now) (sym c.self.view_is) had) in
    let bad : false ≡ true =
    sym c.if-is_some.false ∙ c.is_some.ensures ∙ sym (is_there c.slot.result) ∙ ap is_some c.slot.ensures ∙ found in
    cc

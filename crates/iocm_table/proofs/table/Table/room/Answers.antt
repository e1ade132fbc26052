use Rattle.std.proofs.Common.{◌≡◌, true, false, length, inl, inr, ⊎_elim, refl, sym, ap, ◌∙◌}
use Rattle.std.proofs.lemmas.Result.{on_ok_weaker}
use Rattle.iocm_table.proofs.Lookups.{seen_of, same_rows}
use Rattle.iocm_table.proofs.Writing.{place_found, place_of}
use Rattle.iocm_table.proofs.table.Table.room.Goals as goal

pub returns-then-contains_key-clause-ok : goal.returns-then-contains_key-clause-ok
returns-then-contains_key-clause-ok g c =
    place_of g.met.K.TableKey.is_cmp c.self.inside.slots c.args.self.now c.self.view_is c.args.key
    (sym c.if-contains_key.ensures)

pub invariant_of-self : goal.invariant_of-self
invariant_of-self g c = record
    { rise = c.add_place.ensures.rise; counted = c.self.invariant.counted ∙ sym (ap length c.add_place.ensures.rows) }

pub returns-clause-rows : goal.returns-clause-rows
returns-clause-rows g c =
    same_rows g.K.TableKey.order c.self.inside.slots c.add_place.new.slots c.args.self.now c.self.view_is
    c.add_place.ensures.rows

pub returns-clause-ok : goal.returns-clause-ok
returns-clause-ok g c = on_ok_weaker c.add_place.result
    (place_of g.met.K.TableKey.is_cmp c.add_place.new.slots (seen_of c.add_place.new.slots) refl c.args.key)
    c.add_place.ensures.ok

pub returns-clause-kept : goal.returns-clause-kept
returns-clause-kept g c q had = place_of g.met.K.TableKey.is_cmp c.add_place.new.slots (seen_of c.add_place.new.slots)
    refl q
    (c.add_place.ensures.kept q
    (place_found g.met.K.TableKey.is_cmp c.self.inside.slots c.args.self.now c.self.view_is q had))

pub returns-clause-no_more : goal.returns-clause-no_more
returns-clause-no_more g c q has = ⊎_elim
    (λ had. inl (place_of g.met.K.TableKey.is_cmp c.self.inside.slots c.args.self.now c.self.view_is q had))
    (λ same. inr same)
    (c.add_place.ensures.no_more q
    (place_found g.met.K.TableKey.is_cmp c.add_place.new.slots (seen_of c.add_place.new.slots) refl q has))

pub returns-clause-succeeds : goal.returns-clause-succeeds
returns-clause-succeeds g c had =
    let found = place_found g.met.K.TableKey.is_cmp c.self.inside.slots c.args.self.now c.self.view_is c.args.key had in
    let bad : false ≡ true = c.if-contains_key.ensures ∙ found in cc

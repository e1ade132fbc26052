use Rattle.std.proofs.Common.{◌≡◌, ◌⊎◌, true, false, is_ok, ap, subst, sym, ◌∙◌, arith}
use Rattle.std.proofs.lemmas.List.{length-map}
use Rattle.std.proofs.lemmas.Bool.{false≢true}
use Rattle.std.specs.Prelude.{IsTrue}
use Rattle.iocm_types.specs.Naming.{naming_cmp}
use Rattle.iocm_model.specs.Machine.Naming.{named_by}
use Rattle.iocm_model.specs.Machine.Record.{key_of}
use Rattle.iocm_table.specs.Slots.{HasPlace}
use Rattle.iocm_index.specs.Namings.{naming, namings_of, is_naming_of, HavePlaces}
use Rattle.iocm_index.proofs.Loops.{Places, all_of_places, none_more, none_wanted, roomier}
use Rattle.iocm_index.proofs.index.Index.room.Goals as goal

pub loop-place-preserved : goal.loop-place-preserved
loop-place-preserved g c =
    roomier (namings_of c.args.entry.now) c.loop-place.place c.self.inside.namings c.loop-place.self-inside.namings
    c.room.new.self
    c.naming_at.result c.loop-place.invariant c.naming_at.ensures c.room.ensures.rows c.in_ok-room.ensures.ok
    c.room.ensures.kept c.room.ensures.no_more

pub returns-in_err-room-clause-no_more : goal.returns-in_err-room-clause-no_more
returns-in_err-room-clause-no_more g c n has =
    subst (λ (t : Places). HasPlace naming_cmp t n ⊎ IsTrue (is_naming_of c.args.entry.now n)) c.self.view_is
    (none_more (namings_of c.args.entry.now) c.loop-place.place c.self.inside.namings c.loop-place.self-inside.namings
    c.room.new.self c.naming_at.result c.loop-place.invariant c.naming_at.ensures c.room.ensures.no_more n has)

pub returns-in_err-room-clause-succeeds : goal.returns-in_err-room-clause-succeeds
returns-in_err-room-clause-succeeds g c had =
    let had_all = subst (λ (t : Places). HavePlaces t (namings_of c.args.entry.now)) (sym c.self.view_is) had in
    let fits = c.room.ensures.succeeds
    (none_wanted (namings_of c.args.entry.now) c.loop-place.place c.self.inside.namings
    c.loop-place.self-inside.namings
    c.naming_at.result c.loop-place.invariant c.naming_at.ensures had_all) in
    let bad : false ≡ true = ap is_ok (sym c.in_err-room.was) ∙ fits in absurd (false≢true bad)

pub returns-clause-ok : goal.returns-clause-ok
returns-clause-ok g c = all_of_places (HasPlace naming_cmp c.loop-place.self-inside.namings)
    (namings_of c.args.entry.now)
    (λ k n within is. let many = length-map (named_by c.args.entry.now) (naming (key_of c.args.entry.now)) in
    c.loop-place.invariant.done k n (omega arith) is)

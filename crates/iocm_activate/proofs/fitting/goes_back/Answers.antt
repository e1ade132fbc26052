use Rattle.std.proofs.Common.{◌≡◌, [], ◌∷◌, ◌++◌, refl, sym, ap, subst, ◌∙◌}
use Rattle.iocm_model.specs.Change.Edit.{Edit}
use Rattle.iocm_tree.specs.Carried.{Carried}
use Rattle.iocm_activate.specs.Fitting.{gone_back, way_gone}
use Rattle.iocm_plant.specs.Refusing.{refusal_when}
use Rattle.iocm_plant.specs.declared.quiet.Quiet.TheVariants.{Whatever}
use Rattle.iocm_activate.proofs.Kept.{kept_still, kept_before}
use Rattle.iocm_activate.proofs.Trying.{looked_at, refused, carries_free, leads_after, leads_same}
use Rattle.iocm_activate.proofs.fitting.goes_back.Goals as goal

pub returns-in_err-room-clause-kept : goal.returns-in_err-room-clause-kept
returns-in_err-room-clause-kept g c =
    kept_still c.args.log.now c.room.new.self c.args.plant.now.state c.args.plant.now.state c.requires.kept
    c.room.ensures.keys c.room.ensures.kept refl

pub returns-in_err-copy-clause-kept : goal.returns-in_err-copy-clause-kept
returns-in_err-copy-clause-kept g c =
    kept_still c.args.log.now c.room.new.self c.args.plant.now.state c.args.plant.now.state c.requires.kept
    c.room.ensures.keys c.room.ensures.kept refl

pub returns-in-Ok-clause-went : goal.returns-in-Ok-clause-went
returns-in-Ok-clause-went g c =
    subst (λ (d : Edit). gone_back d c.args.was.now c.args.plant.now.state
    ≡ way_gone c.is_turned-went.result c.force.new.self.state)
    (ap (λ (i : Carried). i.edit) c.in_ok-copy.ensures)
    (looked_at c.in_ok-copy.copy.edit c.args.plant.now c.in-Ok.applied c.force.new.self c.args.was.now
    c.is_turned-went.result c.in-Ok.ensures.accepted c.in-Ok.ensures.performs c.is_turned-went.ensures)

pub returns-in-Ok-clause-back : goal.returns-in-Ok-clause-back
returns-in-Ok-clause-back g c =
    leads_after c.what_happens_between.ensures.still c.args.plant.now c.force.new.self c.in_ok-copy.copy.edit
    c.in-Ok.applied
    c.args.log.now.done.items c.note.new.self.done.items
    c.is_sound.ensures (carries_free c.in_ok-copy.copy.edit c.args.plant.now.state c.in-Ok.ensures.accepted)
    c.in-Ok.ensures.performs c.force.ensures.room
    (c.note.ensures.done ∙ ap (λ ds. ds ++ c.in-Ok.applied ∷ []) c.room.ensures.done)

pub returns-in-Ok-clause-kept : goal.returns-in-Ok-clause-kept
returns-in-Ok-clause-kept g c =
    kept_before c.args.log.now c.note.new.self c.args.plant.now.state c.force.new.self.state c.in_ok-copy.copy.edit
    c.key-key.result c.requires.kept
    (carries_free c.in_ok-copy.copy.edit c.args.plant.now.state c.in-Ok.ensures.accepted) c.in-Ok.ensures.performs.state
    (c.note.ensures.keys ∙ ap (λ ks. ks ++ c.key-key.result ∷ []) c.room.ensures.keys) c.key-key.ensures
    (c.note.ensures.kept ∙ c.room.ensures.kept)

pub returns-in_err-unless_memory_wanted-in-Err-clause-back : goal.returns-in_err-unless_memory_wanted-in-Err-clause-back
returns-in_err-unless_memory_wanted-in-Err-clause-back g c =
    leads_same c.what_happens_between.ensures.still c.args.plant.now c.force.new.self c.args.log.now.done.items
    c.room.new.self.done.items
    c.is_sound.ensures.lived c.in-Err.ensures.same c.force.ensures.room c.room.ensures.done

pub returns-in_err-unless_memory_wanted-in-Err-clause-kept : goal.returns-in_err-unless_memory_wanted-in-Err-clause-kept
returns-in_err-unless_memory_wanted-in-Err-clause-kept g c =
    kept_still c.args.log.now c.room.new.self c.args.plant.now.state c.force.new.self.state c.requires.kept
    c.room.ensures.keys c.room.ensures.kept
    c.in-Err.ensures.same

pub returns-in_ok-unless_memory_wanted-in-Err-clause-went : goal.returns-in_ok-unless_memory_wanted-in-Err-clause-went
returns-in_ok-unless_memory_wanted-in-Err-clause-went g c =
    let s = c.args.plant.now.state in
    let copy = c.in_ok-copy.copy.edit in
    ap (λ (d : Edit). gone_back d c.args.was.now s) (sym (ap (λ (i : Carried). i.edit) c.in_ok-copy.ensures))
    ∙ refused copy c.args.was.now s s c.in-Err.why
    (c.in_ok-unless_memory_wanted-in-Err.ensures (refusal_when Whatever copy s) c.in-Err.ensures.refused)

pub returns-in_ok-unless_memory_wanted-in-Err-clause-back : goal.returns-in_ok-unless_memory_wanted-in-Err-clause-back
returns-in_ok-unless_memory_wanted-in-Err-clause-back g c =
    leads_same c.what_happens_between.ensures.still c.args.plant.now c.force.new.self c.args.log.now.done.items
    c.room.new.self.done.items
    c.is_sound.ensures.lived c.in-Err.ensures.same c.force.ensures.room c.room.ensures.done

pub returns-in_ok-unless_memory_wanted-in-Err-clause-kept : goal.returns-in_ok-unless_memory_wanted-in-Err-clause-kept
returns-in_ok-unless_memory_wanted-in-Err-clause-kept g c =
    kept_still c.args.log.now c.room.new.self c.args.plant.now.state c.force.new.self.state c.requires.kept
    c.room.ensures.keys c.room.ensures.kept
    c.in-Err.ensures.same

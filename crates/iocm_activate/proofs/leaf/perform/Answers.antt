use Rattle.std.proofs.Common.{[], ◌∷◌, ◌++◌, Some, None, refl, ap, subst, ◌∙◌}
use Rattle.std.specs.FinMap.{get}
use Rattle.iocm_model.specs.Change.Edit.{Edit, action_key, record_after}
use Rattle.iocm_model.specs.Change.Meaning.{unless_refused}
use Rattle.iocm_model.specs.Change.Refusal.{refusal_of}
use Rattle.iocm_model.proofs.Change.EditsGoBack.{back_record}
use Rattle.iocm_model.proofs.Change.RunsGoBack.{accepted_carry}
use Rattle.iocm_tree.specs.Carried.{Carried}
use Rattle.iocm_activate.specs.Walked.{Answers}
use Rattle.iocm_activate.proofs.Kept.{kept_still, kept_before, kept_unchanged}
use Rattle.iocm_activate.proofs.Leaves.{on_err, leaf_done, leaf_refused}
use Rattle.iocm_activate.proofs.Runs.{ran_nothing, ran_one}
use Rattle.iocm_activate.proofs.leaf.perform.Goals as goal

pub returns-in_err-room-clause-ran : goal.returns-in_err-room-clause-ran
returns-in_err-room-clause-ran g c = on_err c.from_residual.result
    (ran_nothing c.args.plant.now c.args.log.now c.args.plant.now c.room.new.self refl
    (c.what_happens_between.ensures.same_places c.args.plant.now.room c.args.plant.now.room refl) c.room.ensures.done
    c.room.ensures.keys)

pub returns-in_err-room-clause-kept : goal.returns-in_err-room-clause-kept
returns-in_err-room-clause-kept g c =
    kept_still c.args.log.now c.room.new.self c.args.plant.now.state c.args.plant.now.state c.requires.kept
    c.room.ensures.keys c.room.ensures.kept refl

pub returns-in_err-copy-clause-ran : goal.returns-in_err-copy-clause-ran
returns-in_err-copy-clause-ran g c = on_err c.from_residual-in_err-copy.result
    (ran_nothing c.args.plant.now c.args.log.now c.args.plant.now c.room.new.self refl
    (c.what_happens_between.ensures.same_places c.args.plant.now.room c.args.plant.now.room refl) c.room.ensures.done
    c.room.ensures.keys)

pub returns-in_err-copy-clause-kept : goal.returns-in_err-copy-clause-kept
returns-in_err-copy-clause-kept g c =
    kept_still c.args.log.now c.room.new.self c.args.plant.now.state c.args.plant.now.state c.requires.kept
    c.room.ensures.keys c.room.ensures.kept refl

pub returns-in_err-unless_no_memory-in-Err-clause-ran : goal.returns-in_err-unless_no_memory-in-Err-clause-ran
returns-in_err-unless_no_memory-in-Err-clause-ran g c = on_err c.from_residual-in_err-unless_no_memory-in-Err.result
    (ran_nothing c.args.plant.now c.args.log.now c.apply.new.self c.room.new.self c.in-Err.ensures.same
    c.apply.ensures.room c.room.ensures.done
    c.room.ensures.keys)

pub returns-in_err-unless_no_memory-in-Err-clause-kept : goal.returns-in_err-unless_no_memory-in-Err-clause-kept
returns-in_err-unless_no_memory-in-Err-clause-kept g c =
    kept_still c.args.log.now c.room.new.self c.args.plant.now.state c.apply.new.self.state c.requires.kept
    c.room.ensures.keys c.room.ensures.kept
    c.in-Err.ensures.same

pub returns-then-leaves_its_record-clause-answers : goal.returns-then-leaves_its_record-clause-answers
returns-then-leaves_its_record-clause-answers g c =
    let s = c.args.plant.now.state in let e = c.in_ok-copy.copy.edit in
    subst (λ (d : Edit). Answers (unless_refused (refusal_of d s) c.args.node d s) c.args.plant.now c.args.log.now
    c.apply.new.self c.note_unchanged.new.self None)
    (ap (λ (i : Carried). i.edit) c.in_ok-copy.ensures) (record {
      ran = ran_one c.args.plant.now c.args.log.now c.apply.new.self c.note_unchanged.new.self e c.in-Ok.applied
          c.key-key.result c.is_sound.ensures
          c.in-Ok.ensures.accepted c.in-Ok.ensures.performs c.apply.ensures.room
          (c.note_unchanged.ensures.done ∙ ap (λ ds. ds ++ c.in-Ok.applied ∷ []) c.room.ensures.done) c.key-key.ensures
          (c.note_unchanged.ensures.keys ∙ ap (λ ks. ks ++ c.key-key.result ∷ []) c.room.ensures.keys);
      means = leaf_done c.args.node s c.apply.new.self.state e c.in-Ok.ensures.accepted c.in-Ok.ensures.performs.state;
    })

pub returns-then-leaves_its_record-clause-kept : goal.returns-then-leaves_its_record-clause-kept
returns-then-leaves_its_record-clause-kept g c =
    let s = c.args.plant.now.state in let e = c.in_ok-copy.copy.edit in
    kept_unchanged c.room.new.self c.note_unchanged.new.self s c.apply.new.self.state e c.key-key.result
    (kept_still c.args.log.now c.room.new.self s s c.requires.kept c.room.ensures.keys c.room.ensures.kept refl)
    (accepted_carry (e ∷ []) s (c.in-Ok.ensures.accepted, tt)) c.in-Ok.ensures.performs.state
    (ap (λ (i : Carried). record_after i.edit.action) c.in_ok-copy.ensures
    ∙ c.leaves_its_record.ensures c.if-leaves_its_record.true
    ∙ ap (λ (i : Edit). record_after i.action) c.in-Ok.ensures.performs.inverse
    ∙ back_record (action_key e.action) (get s.config (action_key e.action)) (record_after e.action))
    c.note_unchanged.ensures.keys c.key-key.ensures c.note_unchanged.ensures.kept

pub returns-else-leaves_its_record-clause-answers : goal.returns-else-leaves_its_record-clause-answers
returns-else-leaves_its_record-clause-answers g c =
    let s = c.args.plant.now.state in let e = c.in_ok-copy.copy.edit in
    subst (λ (d : Edit). Answers (unless_refused (refusal_of d s) c.args.node d s) c.args.plant.now c.args.log.now
    c.apply.new.self c.note.new.self None)
    (ap (λ (i : Carried). i.edit) c.in_ok-copy.ensures) (record {
      ran = ran_one c.args.plant.now c.args.log.now c.apply.new.self c.note.new.self e c.in-Ok.applied c.key-key.result
          c.is_sound.ensures
          c.in-Ok.ensures.accepted c.in-Ok.ensures.performs c.apply.ensures.room
          (c.note.ensures.done ∙ ap (λ ds. ds ++ c.in-Ok.applied ∷ []) c.room.ensures.done) c.key-key.ensures
          (c.note.ensures.keys ∙ ap (λ ks. ks ++ c.key-key.result ∷ []) c.room.ensures.keys);
      means = leaf_done c.args.node s c.apply.new.self.state e c.in-Ok.ensures.accepted c.in-Ok.ensures.performs.state;
    })

pub returns-else-leaves_its_record-clause-kept : goal.returns-else-leaves_its_record-clause-kept
returns-else-leaves_its_record-clause-kept g c =
    kept_before c.args.log.now c.note.new.self c.args.plant.now.state c.apply.new.self.state c.in_ok-copy.copy.edit
    c.key-key.result c.requires.kept
    (accepted_carry (c.in_ok-copy.copy.edit ∷ []) c.args.plant.now.state (c.in-Ok.ensures.accepted, tt))
    c.in-Ok.ensures.performs.state
    (c.note.ensures.keys ∙ ap (λ ks. ks ++ c.key-key.result ∷ []) c.room.ensures.keys) c.key-key.ensures
    (c.note.ensures.kept ∙ c.room.ensures.kept)

pub returns-in_ok-unless_no_memory-in-Err-clause-answers : goal.returns-in_ok-unless_no_memory-in-Err-clause-answers
returns-in_ok-unless_no_memory-in-Err-clause-answers g c =
    let s = c.args.plant.now.state in let e = c.in_ok-copy.copy.edit in
    let due = c.in_ok-unless_no_memory-in-Err.ensures (refusal_of e s) c.in-Err.ensures.refused in
    subst (λ (d : Edit). Answers (unless_refused (refusal_of d s) c.args.node d s) c.args.plant.now c.args.log.now
    c.apply.new.self c.room.new.self
    (Some c.in_ok-unless_no_memory-in-Err.field-0))
    (ap (λ (i : Carried). i.edit) c.in_ok-copy.ensures) (record {
      ran = ran_nothing c.args.plant.now c.args.log.now c.apply.new.self c.room.new.self c.in-Err.ensures.same
          c.apply.ensures.room c.room.ensures.done
          c.room.ensures.keys;
      means = leaf_refused c.args.node s c.apply.new.self.state e c.in-Err.why c.in_ok-unless_no_memory-in-Err.field-0
          due.0 due.1;
    })

pub returns-in_ok-unless_no_memory-in-Err-clause-kept : goal.returns-in_ok-unless_no_memory-in-Err-clause-kept
returns-in_ok-unless_no_memory-in-Err-clause-kept g c =
    kept_still c.args.log.now c.room.new.self c.args.plant.now.state c.apply.new.self.state c.requires.kept
    c.room.ensures.keys c.room.ensures.kept
    c.in-Err.ensures.same

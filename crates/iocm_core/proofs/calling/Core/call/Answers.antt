-- A call leaves a core with one entry more.
use Rattle.std.proofs.Common.{◌≡◌, ◌+◌, ◌≤◌, length, [], ◌∷◌, refl, sym, ap, subst, ◌∙◌, arith}
use Rattle.std.proofs.lemmas.List.{length-append}
use Rattle.std.specs.List.{AllByRecursion}
use Rattle.iocm_model.specs.Operation.State.{opening_state}
use Rattle.iocm_core.specs.Calls.{call_in}
use Rattle.iocm_core.specs.Recorded.{IsRecorded}
use Rattle.iocm_core.specs.Running.{IsInstallationOf}
use Rattle.iocm_core.specs.Seen as seen
use Rattle.iocm_core.specs.Told.{entry_told, history_in, IsWithin}
use Rattle.iocm_core.specs.declared.trace.Entry.{Entry}
use Rattle.iocm_core.proofs.Recording.{one_more, within_still}
use Rattle.iocm_core.proofs.calling.Core.call.Goals as goal

pub invariant_of-self : goal.invariant_of-self
invariant_of-self c =
    let inside = c.self.inside in
    let opening = opening_state inside.opening.records in
    let left = c.perform-answer.new.self in
    let e : Entry = record { call = c.args.call; answer = c.perform-answer.result } in
    let answered =
    c.perform-answer.ensures.answers opening (history_in inside.installation.changes.items inside.entries.items)
    c.self.invariant.installation in
    let more =
    one_more inside.installation.changes.items left.changes.items inside.entries.items e c.self.invariant.within
    c.perform-answer.ensures.changes in
    let long : length c.note.new.entries.items ≡ length inside.entries.items + 1
    = ap length c.note.ensures.entries ∙ length-append inside.entries.items (e ∷ []) in
    let before = c.self.invariant.entries in
    let apart = c.if-len-self.false in
    let many = c.len.ensures in
    record {
      installation = subst (λ es. IsInstallationOf opening (history_in left.changes.items es) left)
          (sym c.note.ensures.entries)
          (subst (λ h. IsInstallationOf opening h left) (sym more) answered.is);
      within = subst (AllByRecursion (λ (d : Entry). IsWithin (length left.changes.items) d.answer))
          (sym c.note.ensures.entries)
          (within_still inside.installation.changes.items left.changes.items inside.entries.items e
          c.self.invariant.within c.perform-answer.ensures.changes);
      entries = omega (arith, long, before, apart, many);
      memory = subst (λ k. inside.room ≤ k) (sym c.note.ensures.capacity) c.self.invariant.memory;
    }

pub returns-clause-recorded : goal.returns-clause-recorded
returns-clause-recorded c =
    let inside = c.self.inside in
    let left = c.perform-answer.new.self in
    let e : Entry = record { call = c.args.call; answer = c.perform-answer.result } in
    let more =
    one_more inside.installation.changes.items left.changes.items inside.entries.items e c.self.invariant.within
    c.perform-answer.ensures.changes in
    let new : seen.Core = record {
      opening = opening_state inside.opening.records;
      history = history_in left.changes.items c.note.new.entries.items;
      entries = c.note.new.entries.items;
      room = inside.room;
    } in
    subst (λ (v : seen.Core). IsRecorded v (call_in c.args.call) c.note.result new) c.self.view_is (record {
      entry = entry_told left.changes.items (call_in c.args.call) c.perform-answer.result;
      history = ap (history_in left.changes.items) c.note.ensures.entries ∙ more;
      call_is = refl;
      answer_is = sym c.note.ensures.answer;
      opening = refl;
      room = refl;
    })

-- The last change undone was done again.
use Rattle.std.proofs.Common.{◌≡◌, ◌-◌, length, Some, sym, ap, subst, ◌∙◌}
use Rattle.std.specs.List.{slice_get}
use Rattle.iocm_journal.specs.Journaled.{Journaled}
use Rattle.iocm_journal.proofs.Places.{was_redone}
use Rattle.iocm_journal.proofs.journal.Journal.do_again.Goals as goal

pub returns-in-Ok-clause-done : goal.returns-in-Ok-clause-done
returns-in-Ok-clause-done c =
    let last = c.in-Some.last.now in
    let noted = c.note_redone-last.ensures in
    let undone = c.deref.ensures.value ∙ ap (λ (v : Journaled). v.undone) c.self.view_is in
    let at_last = subst (λ us. slice_get us (length us - 1) ≡ Some last) undone (sym c.in-Some.ensures.value) in
    was_redone c.args.self.now c.note_redone-last.new.self c.args.place c.args.plant.now.state
    c.carry_out.new.plant.state last c.note_redone-last.result _ c.requires.place c.requires.last at_last
    c.in-Ok.ensures.means noted.changes noted.standing noted.undone

-- An undo makes the entry that is right, and leaves what it gives.
use Rattle.std.proofs.Common.{◌+◌, sym, subst}
use Rattle.iocm_model.specs.Laws.Trees.{KeepsTheRules}
use Rattle.iocm_journal.specs.Deciding.{IsUndoDecided}
use Rattle.iocm_journal.proofs.UndoCalls.{rules_now, undo_performed, undo_stopped, undo_lacks}
use Rattle.iocm_journal.proofs.journal.Journal.undo_if_nothing_stands_on_it.Goals as goal

pub take_back-requires-clause-rules : goal.take_back-requires-clause-rules
take_back-requires-clause-rules c = subst KeepsTheRules (sym c.in-Ok-None.ensures.same) (rules_now c.requires.now)

pub returns-in-Ok-None-clause-next : goal.returns-in-Ok-None-clause-next
returns-in-Ok-None-clause-next c = λ opening h now.
    let decided = subst (IsUndoDecided opening h (c.args.place + 1)) c.in-Ok-None.field-0-is
    (c.in-Ok-None.ensures.decided opening h now) in
    let did = c.take_back.ensures in
    undo_performed now c.args.place decided c.requires.stands c.undo_obstacle.new.plant.state c.in-Ok-None.ensures.same
    c.take_back.result c.take_back.new.self c.take_back.new.plant did.done did.refused did.same did.journal

pub returns-in-Ok-Some-clause-next : goal.returns-in-Ok-Some-clause-next
returns-in-Ok-Some-clause-next c = λ opening h now.
    let decided = subst (IsUndoDecided opening h (c.args.place + 1)) c.in-Ok-Some.field-0-is
    (c.in-Ok-Some.ensures.decided opening h now) in
    undo_stopped now c.undo_obstacle.new.plant c.in-Ok-Some.ensures.same (c.args.place + 1) c.in-Ok-Some.why decided

pub returns-in-Err-clause-next : goal.returns-in-Err-clause-next
returns-in-Err-clause-next c =
    λ opening h now. undo_lacks now c.undo_obstacle.new.plant c.undo_obstacle.ensures.same c.args.place
    c.requires.stands

-- A redo makes the entry that is right, and leaves what it gives.
use Rattle.std.proofs.Common.{◌≡◌, true, subst}
use Rattle.iocm_journal.specs.Standing.{is_last}
use Rattle.iocm_journal.proofs.UndoCalls.{rules_now}
use Rattle.iocm_journal.proofs.RedoCalls.{redo_performed, redo_stopped}
use Rattle.iocm_journal.proofs.journal.Journal.redo.Goals as goal

pub do_again-requires-clause-rules : goal.do_again-requires-clause-rules
do_again-requires-clause-rules c = rules_now c.requires

pub returns-in-Ok-clause-next : goal.returns-in-Ok-clause-next
returns-in-Ok-clause-next c = λ opening h now.
    let last = subst (λ n. is_last c.args.self.now.undone n ≡ true) c.in-Ok.ensures.number c.in-Ok.ensures.last in
    let did = c.do_again.ensures in
    redo_performed now c.args.number c.in-Ok.place c.in-Ok.ensures.number (c.in-Ok.ensures.decided opening h now)
    c.do_again.result c.do_again.new.self c.do_again.new.plant did.done did.refused did.same did.journal last

pub returns-in-Err-clause-next : goal.returns-in-Err-clause-next
returns-in-Err-clause-next c = λ opening h now.
    redo_stopped now c.args.number c.in-Err.why (c.in-Err.ensures.decided opening h now)

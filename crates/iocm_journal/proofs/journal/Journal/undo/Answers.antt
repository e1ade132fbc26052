-- An undo makes the entry that is right, and leaves what it gives.
use Rattle.std.proofs.Common.{◌<◌, length, sym, ap, subst}
use Rattle.iocm_journal.proofs.Places.{stands_within}
use Rattle.iocm_journal.proofs.UndoCalls.{by_number, undo_of_none, still_now, still_together}
use Rattle.iocm_journal.proofs.journal.Journal.undo.Goals as goal

pub returns-in_default-clause-next : goal.returns-in_default-clause-next
returns-in_default-clause-next c = λ opening h now.
    undo_of_none now c.args.number c.of.result c.in_default.ensures c.of.ensures

pub undo_if_it_fits-requires-clause-place : goal.undo_if_it_fits-requires-clause-place
undo_if_it_fits-requires-clause-place c = stands_within c.args.self.now.changes c.in-Some.place c.in-Some.ensures.1

pub undo_if_nothing_stands_on_it-requires-clause-now : goal.undo_if_nothing_stands_on_it-requires-clause-now
undo_if_nothing_stands_on_it-requires-clause-now c =
    still_together (c.undo_if_it_fits.ensures.same c.if-undo_if_it_fits.false)
    (c.undo_if_it_fits.ensures.state c.if-undo_if_it_fits.false) c.requires

pub undo_if_nothing_stands_on_it-requires-clause-place : goal.undo_if_nothing_stands_on_it-requires-clause-place
undo_if_nothing_stands_on_it-requires-clause-place c =
    subst (λ n. c.in-Some.place < n)
    (sym (ap length (c.undo_if_it_fits.ensures.same c.if-undo_if_it_fits.false).changes))
    (stands_within c.args.self.now.changes c.in-Some.place c.in-Some.ensures.1)

pub returns-clause-next : goal.returns-clause-next
returns-clause-next c = λ opening h now.
    by_number c.in-Some.place c.undo_if_nothing_stands_on_it.result c.in-Some.ensures.0
    (c.undo_if_nothing_stands_on_it.ensures.next opening h
    (still_now (c.undo_if_it_fits.ensures.same c.if-undo_if_it_fits.false)
    (c.undo_if_it_fits.ensures.state c.if-undo_if_it_fits.false) now))

-- The change at a place stands again.
use Rattle.std.proofs.Common.{◌≡◌, Some, set, sym, ap, subst}
use Rattle.std.specs.List.{slice_get}
use Rattle.iocm_journal.specs.Journaled.{Journaled}
use Rattle.iocm_journal.specs.Moving.{again}
use Rattle.iocm_journal.specs.Noted.{AreNoted}
use Rattle.iocm_journal.proofs.Counts.{stands_more}
use Rattle.iocm_journal.proofs.Noting.{noted_again}
use Rattle.iocm_journal.proofs.Places.{read_there, set_there}
use Rattle.iocm_journal.proofs.journal.Journal.note_redone.Goals as goal

pub invariant_of-self : goal.invariant_of-self
invariant_of-self c =
    let same = ap (λ (v : Journaled). v.changes) c.self.view_is in
    let place = c.args.place in
    let k = c.index_mut-kept.result.now in
    let ks = c.self.inside.changes.items in
    let us = c.self.inside.undos.items in
    let there = read_there same place k c.requires.place c.index_mut-kept.ensures.value in
    let here = subst (λ ks. slice_get ks place ≡ Some k) (sym same) there in (
      stands_more same c.self.inside.standing c.self.invariant.0 place k there c.requires.undone,
      subst (AreNoted (set ks place (again k))) (sym c.forget_last_of.ensures)
          (noted_again ks us place k here c.self.invariant.1),
    )

pub returns-clause-changes : goal.returns-clause-changes
returns-clause-changes c = λ k at_k.
    let same = ap (λ (v : Journaled). v.changes) c.self.view_is in
    let i = c.index_mut-kept.result.now in
    set_there again same c.args.place i k
    (read_there same c.args.place i c.requires.place c.index_mut-kept.ensures.value) at_k

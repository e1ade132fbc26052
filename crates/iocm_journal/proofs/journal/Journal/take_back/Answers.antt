-- The change at a place was taken back.
use Rattle.std.proofs.Common.{◌≡◌, ◌+◌, ◌-◌, ◌<◌, ◌++◌, ◌∷◌, [], length, set, refl, sym, ap, subst, ◌∙◌, arith}
use Rattle.iocm_model.specs.Change.Meaning.{meaning, state_reached}
use Rattle.iocm_plant.specs.Refusing.{IsDue}
use Rattle.iocm_activate.specs.Done.{refusal_in}
use Rattle.iocm_journal.specs.Journaled.{Journaled}
use Rattle.iocm_journal.specs.Moving.{no_more}
use Rattle.iocm_journal.specs.Noted.{AreNoted}
use Rattle.iocm_journal.specs.declared.kept.Undone.{Undone}
use Rattle.iocm_journal.specs.declared.undos.Undo.{Undo}
use Rattle.iocm_journal.proofs.Counts.{stands_one, stands_less}
use Rattle.iocm_journal.proofs.Noting.{noted_undone}
use Rattle.iocm_journal.proofs.Places.{inverse_item, read_there, set_there}
use Rattle.iocm_journal.proofs.journal.Journal.take_back.Goals as goal

pub overflow_sub-self : goal.overflow_sub-self
overflow_sub-self c = stands_one (ap (λ (v : Journaled). v.changes) c.self.view_is) c.self.inside.standing
    c.self.invariant.0 c.args.place c.requires.stands

pub invariant_of-self-in-Ok : goal.invariant_of-self-in-Ok
invariant_of-self-in-Ok c =
    let same = ap (λ (v : Journaled). v.changes) c.self.view_is in
    let place = c.args.place in
    let count = c.len-count.result in
    let k = c.index_mut-kept.result.now in
    let ks = c.self.inside.changes.items in
    let us = c.self.inside.undos.items in
    let new : Undo = record { place = place; after = count } in
    let noted = c.push_reserved-in-Ok.ensures.items ∙ ap (λ us. us ++ new ∷ []) c.reserve-2.ensures.items in
    let within = subst (λ ks. place < length ks) (sym same) c.requires.place in (
      stands_less same c.self.inside.standing c.self.invariant.0 place count k
          (read_there same place k c.requires.place c.index_mut-kept.ensures.value) c.requires.stands,
      subst (AreNoted (set ks place (no_more count k))) (sym noted)
          (noted_undone ks us place count k (c.len-count.ensures ∙ c.self.inside.changes.ok.0) within
          c.self.invariant.1),
    )

pub returns-in-Ok-clause-done : goal.returns-in-Ok-clause-done
returns-in-Ok-clause-done c =
    let same = ap (λ (v : Journaled). v.changes) c.self.view_is in
    let place = c.args.place in
    let k = c.index.result.now in
    let i = c.index_mut-kept.result.now in
    let there = read_there same place k c.requires.place c.index.ensures in
    let here = read_there same place i c.requires.place c.index_mut-kept.ensures.value in
    let count = c.len-count.ensures ∙ c.self.inside.changes.ok.0 ∙ ap length same in
    let some = stands_one same c.self.inside.standing c.self.invariant.0 place c.requires.stands in
    let standing : c.self.inside.standing - 1 + 1 ≡ c.self.inside.standing = omega (arith, some) in
    let last : Undone = record { number = place + 1; redo = c.in-Ok.redo } in
    record {
      kept = k;
      there = there;
      means = ap state_reached c.in-Ok.ensures.means;
      changes = set_there (no_more c.len-count.result) same place i k here there
          ∙ ap (λ n. set c.args.self.now.changes place (no_more n k)) count;
      standing = standing ∙ ap (λ (v : Journaled). v.standing) c.self.view_is;
      last = last;
      undone = c.push_reserved.ensures.items
          ∙ ap (λ us. us ++ last ∷ []) (c.reserve.ensures.items ∙ ap (λ (v : Journaled). v.undone) c.self.view_is);
      number = refl;
      takes_back = c.in-Ok.ensures.takes_back;
    }

pub returns-in-Err-clause-refused : goal.returns-in-Err-clause-refused
returns-in-Err-clause-refused c =
    let same = ap (λ (v : Journaled). v.changes) c.self.view_is in
    let there = read_there same c.args.place c.index.result.now c.requires.place c.index.ensures in
    subst (λ t. IsDue (refusal_in (meaning t c.args.plant.now.state)) c.in-Err.why)
    (sym (inverse_item c.args.self.now.changes c.args.place c.index.result.now there)) c.in-Err.ensures.refused

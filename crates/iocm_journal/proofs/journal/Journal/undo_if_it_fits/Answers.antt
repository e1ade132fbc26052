-- A change was taken back that fits, on which none stands, and that altered what is quiet.
use Rattle.std.proofs.Common.{◌≡◌, Option, Some, None, Ok, is_some, true, false, length, refl, sym, ap, ◌∙◌}
use Rattle.iocm_journal.specs.Journaled.{Journaled}
use Rattle.iocm_journal.specs.Standing.{IsGreatestOn, is_on, last_passing}
use Rattle.iocm_journal.proofs.Passing.{found_same}
use Rattle.iocm_journal.proofs.UndoCalls.{rules_now, undo_performed, waits_for}
use Rattle.iocm_journal.proofs.journal.Journal.undo_if_it_fits.Goals as goal

nothing_there : {A : Type 0} (o : Option A) → is_some o ≡ false → o ≡ None
nothing_there None h = refl
nothing_there (Some a) h = cc

pub take_back-requires-clause-rules : goal.take_back-requires-clause-rules
take_back-requires-clause-rules c = rules_now c.requires.now

pub returns-in-Ok-clause-next : goal.returns-in-Ok-clause-next
returns-in-Ok-clause-next c = λ done opening h now.
    let ks = c.args.self.now.changes in
    let fs = c.args.changes.now.items in
    let place = c.args.place in
    let same = c.as_slice-kept.ensures.value ∙ ap (λ (v : Journaled). v.changes) c.self.view_is in
    let free : last_passing (is_on ks fs place true) (length ks) ≡ None =
    found_same fs place true same ∙ sym c.greatest_on.ensures.last
    ∙ nothing_there c.greatest_on.result (sym c.is_some.ensures ∙ c.if-is_some.false) in
    let greatest : IsGreatestOn ks fs place c.args.plant.now.state None = λ k es s at inverse told.
    sym free ∙ ap (λ b. last_passing (is_on ks fs place b) (length ks))
    (c.in-Ok.ensures.fits refl k at es s inverse told) in
    let quiet = sym (nothing_there c.refused_for_not_quiet.result (sym c.is_some-2.ensures ∙ c.if-is_some-2.false))
    ∙ c.refused_for_not_quiet.ensures in
    let decided = waits_for now place c.requires.stands None greatest c.get.result.now None c.get.ensures refl quiet in
    undo_performed now place decided c.requires.stands c.args.plant.now.state refl (Ok tt) c.take_back.new.self
    c.take_back.new.plant
    c.in-Ok.ensures.done tt tt tt

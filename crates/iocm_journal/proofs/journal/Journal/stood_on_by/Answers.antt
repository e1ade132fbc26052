-- The greatest change that stands on one: none where none would stand on it if it didn't fit.
use Rattle.std.proofs.Common.{◌≡◌, Option, Some, None, is_some, false, length, refl, sym, ap, subst, ◌∙◌}
use Rattle.iocm_journal.specs.declared.kept.Kept.{Kept}
use Rattle.iocm_journal.specs.Journaled.{Journaled}
use Rattle.iocm_journal.specs.Standing.{IsWhetherItFits, is_on, last_passing}
use Rattle.iocm_journal.proofs.Passing.{found_same, none_on_either}
use Rattle.iocm_journal.proofs.journal.Journal.stood_on_by.Goals as goal

nothing_there : {A : Type 0} (o : Option A) → is_some o ≡ false → o ≡ None
nothing_there None h = refl
nothing_there (Some a) h = cc

the_kept : {a b : Kept} → Some a ≡ Some b → a ≡ b
the_kept e = cc

pub returns-then-not-is_stood_on_if_unfit-clause-greatest : goal.returns-then-not-is_stood_on_if_unfit-clause-greatest
returns-then-not-is_stood_on_if_unfit-clause-greatest c = λ k es s at inverse told.
    let same = c.as_slice-kept.ensures.value ∙ ap (λ (v : Journaled). v.changes) c.self.view_is in
    let none = sym (c.is_stood_on_if_unfit.ensures c.args.changes.now.items) ∙ c.if-not-is_stood_on_if_unfit.true in
    sym (none_on_either c.args.self.now.changes c.args.changes.now.items c.args.place (length c.args.self.now.changes)
    (found_same c.args.changes.now.items c.args.place false same ∙ nothing_there _ none) _)

pub returns-clause-greatest : goal.returns-clause-greatest
returns-clause-greatest c = λ k es s at inverse told.
    let same = c.as_slice-kept.ensures.value ∙ ap (λ (v : Journaled). v.changes) c.self.view_is in
    let is = (subst (λ (k : Kept). IsWhetherItFits k c.args.plant.now.state c.in_ok-is_fit.is_fit)
    (the_kept (sym c.kept_at.ensures ∙ at))
    c.in_ok-is_fit.ensures.fits) es s inverse told in
    c.greatest_on.ensures.last ∙ sym (found_same c.args.changes.now.items c.args.place c.in_ok-is_fit.is_fit same)
    ∙ ap (λ b. last_passing (is_on c.args.self.now.changes c.args.changes.now.items c.args.place b)
    (length c.args.self.now.changes)) is

use Rattle.std.proofs.Common.{[], ◌∷◌, sym, ap, ◌∙◌}
use Rattle.std.proofs.lemmas.Bool.{not-true, not-false}
use Rattle.iocm_seats.proofs.Taken.{other_css, own_css}
use Rattle.iocm_seats.proofs.subsystem_cells.taken_in.Goals as goal

pub returns-then-ne-clause-cell : goal.returns-then-ne-clause-cell
returns-then-ne-clause-cell g c =
    other_css c.args.css (c.args.cell, c.args.device) (not-true _ (sym c.ne.ensures ∙ c.if-ne.true))

pub returns-clause-cell : goal.returns-clause-cell
returns-clause-cell g c =
    own_css c.args.css (c.args.cell, c.args.device) (not-false _ (sym c.ne.ensures ∙ c.if-ne.false))
    ∙ ap (λ e. e ∷ []) (sym c.find.ensures.cell)

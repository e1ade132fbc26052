use Rattle.std.proofs.Common.{sym, ap, ◌∙◌, subst}
use Rattle.iocm_board.specs.declared.view.View.{View}
use Rattle.iocm_board.specs.Views.{Held, caller_of}
use Rattle.iocm_system.specs.Sights.{IsCaller}
use Rattle.iocm_system.proofs.Callers.{first_caller}
use Rattle.iocm_system.proofs.system.System.open.Goals as goal

pub invariant_of-result : goal.invariant_of-result
invariant_of-result g c =
    let origin = g.B.Identity.origin c.args.keeper.tag in
    subst (λ (h : Held). IsCaller (g.B.Identity.origin h.tag) h.view) (sym c.set_back-list.ensures.kept)
    (subst (λ (v : View). IsCaller origin (caller_of v)) (sym c.requires.keeper)
    (first_caller origin c.args.core (sym (ap (λ (v : View). v.origin) c.requires.keeper) ∙ c.is_known.ensures)))

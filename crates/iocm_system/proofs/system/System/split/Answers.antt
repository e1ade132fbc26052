use Rattle.std.proofs.Common.{sym, subst}
use Rattle.iocm_board.specs.Views.{Held}
use Rattle.iocm_system.specs.Sights.{IsCaller}
use Rattle.iocm_system.proofs.Callers.{lending_caller}
use Rattle.iocm_system.proofs.system.System.split.Goals as goal

pub invariant_of-me : goal.invariant_of-me
invariant_of-me g c = subst (λ (h : Held). IsCaller (g.B.Identity.origin h.tag) h.view) (sym c.split.ensures.kept)
    (lending_caller _ c.me.inside.seat.view c.me.invariant)

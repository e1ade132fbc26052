-- The caller, with the list, tells all that the core has.
use Rattle.std.proofs.Common.{subst}
use Rattle.iocm_board.specs.Steps.{HasAll}
use Rattle.iocm_board.specs.Views.{Held}
use Rattle.iocm_system.proofs.Callers.{tells_all}
use Rattle.iocm_system.proofs.system.System.close.Goals as goal

pub returns-clause-all : goal.returns-clause-all
returns-clause-all g c =
    tells_all c.core.inside.core c.me.inside.seat c.core.inside.keeper.view c.args.me c.me.view_is c.core.invariant.list
    c.requires.whole
    (subst (λ (h : Held). HasAll h.view) c.take_up.ensures c.compare.ensures.all)

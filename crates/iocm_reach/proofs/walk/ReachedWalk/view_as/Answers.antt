use Rattle.std.proofs.Common.{sym, ap, ◌∙◌}
use Rattle.iocm_reach.specs.Walked.{Walked, seen_as}
use Rattle.iocm_reach.proofs.Viewed.{seen_again}
use Rattle.iocm_reach.proofs.walk.ReachedWalk.view_as.Goals as goal

pub returns-then-eq-clause-view : goal.returns-then-eq-clause-view
returns-then-eq-clause-view g c =
    let sighted = rw c.in-Some.is at c.self.invariant.0.sighted in
    c.view.ensures
    ∙ seen_again c.self.inside.config.now.records c.self.inside.numbers.now.numbers c.in-Some.reached
    c.args.subchannel.now c.args.name
    c.cell.result c.cell_of-cell.result sighted c.cell.ensures c.cell_of-cell.ensures (sym c.eq.ensures ∙ c.if-eq.true)
    ∙ ap (λ (w : Walked). seen_as w c.args.subchannel.now c.args.name) c.self.view_is

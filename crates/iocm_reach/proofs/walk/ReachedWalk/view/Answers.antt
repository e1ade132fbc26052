use Rattle.std.proofs.Common.{ap, subst, ◌∙◌}
use Rattle.iocm_model.specs.Machine.Configuration.{IsKeyed}
use Rattle.iocm_reach.specs.Walked.{Walked, seen_as}
use Rattle.iocm_reach.proofs.Viewed.{seen_named}
use Rattle.iocm_reach.proofs.walk.ReachedWalk.view.Goals as goal

pub returns-clause-view : goal.returns-clause-view
returns-clause-view g c =
    c.view_as.ensures.view ∙ ap (λ (w : Walked). seen_as w c.args.subchannel c.in_ok-name.name)
    c.in_ok-name.ensures.same
    ∙ seen_named c.args.self.now (subst (λ (w : Walked). IsKeyed w.records) c.self.view_is c.has_own_keys.ensures)
    c.args.subchannel
    c.in_ok-name.name c.in_ok-name.ensures.name

-- The callers that were split off come back with what the round made.
use Rattle.std.proofs.Common.{ap, ◌∙◌}
use Rattle.iocm_system.specs.Sights.{borrowed, joined, lends_one}
use Rattle.iocm_operation.proofs.Rounds.{ran_is}
use Rattle.iocm_operation.proofs.round.run_round.Goals as goal

pub returns : goal.returns
returns g c =
    let d = c.drive-driven.result in
    ran_is c.args.round.p.items c.args.round.q.items c.args.round.a.items c.args.round.b.items c.args.me
    c.split-worker.new.me c.split-b.result c.split-worker.result d.a.caller d.b.caller d.office.caller
    c.join-caller.result
    d.office.first.items d.office.second.items d.a.receipts.items d.b.receipts.items d.a.stopped d.b.stopped
    d.office.stopped c.stopped-stopped.result
    (c.split-worker.ensures.kept ∙ ap lends_one c.split-b.ensures.kept) c.split-b.ensures.given
    (c.split-worker.ensures.given ∙ ap borrowed c.split-b.ensures.kept)
    c.drive-driven.ensures.a c.drive-driven.ensures.b c.drive-driven.ensures.office
    (c.join-caller.ensures ∙ ap (λ s. joined s d.office.caller) c.join-me.ensures) c.stopped-stopped.ensures
    c.requires.whole c.requires.below

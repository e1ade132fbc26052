use Rattle.std.proofs.Common.{ap, ◌∙◌}
use Rattle.std.specs.FinMap.{len}
use Rattle.iocm_model.specs.Operation.State.{views_in}
use Rattle.iocm_plant.specs.Operating.{Operating}
use Rattle.iocm_plant.proofs.Counted.{seats_counted}
use Rattle.iocm_plant.proofs.plant.Plant.subchannels.Goals as goal

pub returns : goal.returns
returns c = c.len.ensures ∙ seats_counted c.self.inside.seats.seats ∙ ap len c.self.invariant.0.seated
    ∙ ap (λ (p : Operating). len (views_in p.state)) c.self.view_is

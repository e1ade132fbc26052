use Rattle.std.proofs.Common.{subst}
use Rattle.iocm_model.specs.Operation.State.{IsSound}
use Rattle.iocm_plant.specs.Operating.{Operating}
use Rattle.iocm_plant.proofs.Inside.{sound_state}
use Rattle.iocm_plant.proofs.plant.Plant.is_sound.Goals as goal

pub returns : goal.returns
returns c = subst (λ (p : Operating). IsSound p.state) c.self.view_is (sound_state c.self.inside c.self.invariant.0)

use Rattle.iocm_model.specs.Change.Refusal.{refusal_of}
use Rattle.iocm_plant.proofs.plant.Plant.apply.Goals as goal

pub returns-in-Err-clause-refused : goal.returns-in-Err-clause-refused
returns-in-Err-clause-refused c =
    c.refusal.ensures (refusal_of c.args.edit.edit c.args.self.now.state) c.in-Err.ensures.refused

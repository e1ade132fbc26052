use Rattle.iocm_plant.specs.Refusing.{refusal_when}
use Rattle.iocm_plant.specs.declared.quiet.Quiet.TheVariants.{Whatever}
use Rattle.iocm_plant.proofs.plant.Plant.force.Goals as goal

pub returns-in-Err-clause-refused : goal.returns-in-Err-clause-refused
returns-in-Err-clause-refused c =
    c.refusal.ensures (refusal_when Whatever c.args.edit.edit c.args.self.now.state) c.in-Err.ensures.refused

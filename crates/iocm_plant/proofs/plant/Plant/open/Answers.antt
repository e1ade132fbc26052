use Rattle.std.proofs.Common.{sym, subst}
use Rattle.iocm_plant.specs.Refusing.{opening_refusal}
use Rattle.iocm_model.specs.Laws.Trees.{KeepsTheRules}
use Rattle.iocm_plant.proofs.plant.Plant.open.Goals as goal

pub returns-in-Err-clause-refused : goal.returns-in-Err-clause-refused
returns-in-Err-clause-refused c = c.refusal.ensures (opening_refusal c.args.config.records) c.in-Err.ensures.refused

pub returns-in-Ok-clause-rules : goal.returns-in-Ok-clause-rules
returns-in-Ok-clause-rules c = subst KeepsTheRules (sym c.in-Ok.ensures.state) c.in-Ok.ensures.rules

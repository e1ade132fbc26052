-- Machines in use.
use Rattle.iocm_model.specs.Operation.State.{State, IsSound}
use Rattle.iocm_model.specs.Laws.Trees.{KeepsTheRules}

-- a state of a machine in use: it is sound, and the rules hold in it
pub record IsInUse (s : State) : Type 0 where
  pub sound : IsSound s
  pub rules : KeepsTheRules s

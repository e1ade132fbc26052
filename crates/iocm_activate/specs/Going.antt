-- In the middle of a node's parts.
use Rattle.std.specs.Prelude.{◌≡◌, ℕ, []}
use Rattle.iocm_types.specs.declared.refused.Refused.{Refused}
use Rattle.iocm_model.specs.Change.Meaning.{Outcome, after_run, parts_meaning, choice_meaning}
use Rattle.iocm_model.specs.Change.Tree.{Parts}
use Rattle.iocm_plant.specs.Operating.{Operating}
use Rattle.iocm_activate.specs.Walked.{Ran}
use Rattle.iocm_activate.specs.declared.log.Log.{Log}

-- some parts were performed, and what all of them mean is what the rest means after that
pub record GoesOn (meant : Outcome) (rest : Parts) (node : ℕ) (before : Operating) (old : Log) (now : Operating)
    (log : Log) : Type 0 where
  pub ran : Ran before old now log
  pub further : meant ≡ after_run (record { state = now.state; edits = ran.edits }) (parts_meaning rest node now.state)

-- some parts were refused, the last with this refusal, and nothing is done; what all of them mean
-- is what the rest means
pub record ChoosesOn (meant : Outcome) (rest : Parts) (node : ℕ) (last : Refused) (before : Operating) (old : Log)
    (now : Operating) (log : Log) : Type 0 where
  pub ran : Ran before old now log
  pub nothing : ran.edits ≡ []
  pub further : meant ≡ choice_meaning rest node last now.state

-- The machine after a history, as images see it: a change in stages shows what was advanced of it.
use Rattle.std.specs.Prelude.{ℕ, List, [], take, length, Option, None, Some}
use Rattle.iocm_model.specs.Operation.State.{State}
use Rattle.iocm_model.specs.Change.Edit.{Edit}
use Rattle.iocm_model.specs.Change.Runs.{state_after_all}
use Rattle.iocm_history.specs.Account.{state_at, stage_of}
use Rattle.iocm_history.specs.Entry.{History}
use Rattle.iocm_history.specs.Stage.{Stage}

-- the edits that were advanced of what is staged
abbrev pub edits_advanced : Option Stage → List Edit
edits_advanced (Some g) = take g.advances g.change.edits
edits_advanced None = []

-- the state that the machine is in: the one to which its history leads, and on it these edits
abbrev pub machine_at : State → History → State
machine_at opening h = state_after_all (edits_advanced (stage_of opening h)) (state_at opening h)

-- how many edits were advanced, if a change is staged
abbrev pub count_advanced : Option Stage → Option ℕ
count_advanced (Some g) = Some (length (edits_advanced (Some g)))
count_advanced None = None

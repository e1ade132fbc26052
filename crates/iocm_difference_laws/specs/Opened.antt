-- The difference of two configurations on the machine that is opened from the old one.
use Rattle.std.specs.Prelude.{List, map}
use Rattle.iocm_model.specs.Machine.Configuration.{Configuration}
use Rattle.iocm_model.specs.Operation.State.{opening_state}
use Rattle.iocm_model.specs.Change.Edit.{Action, Edit}
use Rattle.iocm_model.specs.Change.Meaning.{Performed}
use Rattle.iocm_model.specs.Change.Runs.{state_after_all}
use Rattle.iocm_tree.specs.Carried.{bare}
use Rattle.iocm_difference.specs.Difference.{difference}

-- the edits of actions; nothing comes along with them
abbrev pub edits_of : List Action → List Edit
edits_of actions = map (λ a. (bare a).edit) actions

-- the edits of the difference, performed one after the other on the machine that is opened from the
-- old configuration
abbrev pub performed_between : Configuration → Configuration → Performed
performed_between c d = let es = edits_of (difference c d) in
    record { state = state_after_all es (opening_state c); edits = es }

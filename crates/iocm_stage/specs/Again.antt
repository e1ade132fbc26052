-- Edits that are done again after they were taken back.
use Rattle.std.specs.Prelude.{List, [], ◌∷◌}
use Rattle.iocm_model.specs.Operation.State.{State}
use Rattle.iocm_model.specs.Change.Edit.{Edit, state_after}
use Rattle.iocm_model.specs.Change.Inverse.{inverse_of}

-- the edit that takes back the one that took an edit back
abbrev pub again : Edit → State → Edit
again e s = inverse_of (inverse_of e s) (state_after e s)

-- of edits that were performed one after the other
abbrev pub all_again : List Edit → State → List Edit
all_again [] s = []
all_again (e ∷ es) s = again e s ∷ all_again es (state_after e s)

-- What always holds of a core.
use Rattle.std.specs.Prelude.{◌≤◌, ℕ, List, length}
use Rattle.std.specs.List.{AllByRecursion}
use Rattle.iocm_model.specs.Operation.State.{State}
use Rattle.iocm_core.specs.Running.{IsInstallationOf}
use Rattle.iocm_core.specs.Told.{history_in, IsWithin}
use Rattle.iocm_core.specs.declared.installation.Installation.{Installation}
use Rattle.iocm_core.specs.declared.trace.Entry.{Entry}

-- an installation with the entries of its trace, which was opened in a state
pub record IsCore (opening : State) (i : Installation) (es : List Entry) (room : ℕ) (capacity : ℕ) : Type 0 where
  pub installation : IsInstallationOf opening (history_in i.changes.items es) i
  pub within : AllByRecursion (λ (e : Entry). IsWithin (length i.changes.items) e.answer) es
  pub entries : length es ≤ room
  pub memory : room ≤ capacity

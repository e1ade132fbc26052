-- Rows of a walk over a configuration.
use Rattle.std.specs.Prelude.{◌≡◌, Some, List}
use Rattle.std.specs.List.{AllByRecursion}
use Rattle.std.specs.FinMap.{get}
use Rattle.iocm_types.specs.declared.key.Key.{Key}
use Rattle.iocm_model.specs.Machine.Record.{Rec}
use Rattle.iocm_model.specs.Machine.Configuration.{Configuration}

-- each row is a key with its record
abbrev pub AreOf : Configuration → List (Key × Rec) → Type 0
AreOf m rows = AllByRecursion (λ e. get m e.0 ≡ Some e.1) rows

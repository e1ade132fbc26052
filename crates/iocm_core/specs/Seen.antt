-- The core as callers see it.
use Rattle.std.specs.Prelude.{ℕ, List}
use Rattle.iocm_model.specs.Operation.State.{State}
use Rattle.iocm_history.specs.Entry.{History}
use Rattle.iocm_core.specs.declared.trace.Entry.{Entry}

-- a core, as a value: the state in which it was opened, what was asked of it and answered, the
-- latest first, the same as it stands in the trace, in order, and how many entries the trace has
-- room for
pub record Core : Type 0 where
  pub opening : State
  pub history : History
  pub entries : List Entry
  pub room : ℕ

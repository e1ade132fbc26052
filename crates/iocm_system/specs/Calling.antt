-- A call that a caller made, or got back.
use Rattle.std.specs.Prelude.{◌≡◌, ◌≤◌}
use Rattle.iocm_core.specs.declared.call.Call.{Call}
use Rattle.iocm_system.specs.Asking.{asked_by}
use Rattle.iocm_system.specs.Backs.{IsBack}
use Rattle.iocm_system.specs.Sights.{Sight, gains}
use Rattle.iocm_system.specs.declared.receipt.Back.{Back}
use Rattle.iocm_system.specs.declared.receipt.Receipt.{Receipt}

-- a call was made: its receipt names it, and has a number that is at least the count of calls that
-- the caller had seen; the caller has this receipt more, with the whole call and its answer, and
-- has seen the call
pub record IsMade (call : Call) (old : Sight) (r : Receipt) (new : Sight) : Type 0 where
  pub asked : r.asked ≡ asked_by call
  pub later : old.seen ≤ r.number
  pub receipt : new ≡ gains old r.number (record { call = call; answer = r.answer })

-- a call was not made, and comes back
pub record IsHandedBack (call : Call) (old : Sight) (b : Back) (new : Sight) : Type 0 where
  pub same : b.call ≡ call
  pub why : IsBack b.rule old new

-- The status bits of functions in progress and of pending status, and HALT while a clear is in
-- progress, as it is stated by hand: start 1, halt 2, clear 4, and 8 more while status is pending.
use Rattle.std.specs.Prelude.{ℕ, true}
use Rattle.iocm_types.specs.declared.live.Phase.{Phase}
use Rattle.iocm_types.specs.declared.live.Phase.TheVariants.{Idle, StartPending, StartActive, Pending}
use Rattle.iocm_types.specs.declared.live.Phase.TheVariants as phase
use Rattle.iocm_types.specs.declared.order.Order.TheVariants.{Halt, Clear, Test, Store}
use Rattle.iocm_types.specs.declared.order.Io.TheVariants.{Code, Status, Stored}
use Rattle.iocm_types.specs.declared.live.Function.TheVariants as function
use Rattle.iocm_examples.specs.Orders.{seen_by_lpa, enabled_in, Does, Refuses}

-- STORE shows these bits, whatever the phase, and leaves it
abbrev pub Stores : Phase → ℕ → Type 0
Stores phase bits = Does seen_by_lpa (enabled_in phase) Store
    (Stored (record {
      device = 0x1002;
      pim = 0xC0;
      pam = 0xC0;
      lpm = 0x80;
      enabled = true;
      parm = 7;
      bits = record { 0 = bits };
    }))
    (enabled_in phase)

-- TEST gives these bits of a status that is pending, and takes it
abbrev pub Tests : Phase → ℕ → Type 0
Tests phase bits = Does seen_by_lpa (enabled_in phase) Test (Status (record { 0 = bits })) (enabled_in Idle)

-- the bits of each phase
pub record BitsOfPhases : Type 0 where
  pub idle : Stores Idle 0
  pub start_accepted : Stores StartPending 1
  pub start : Stores StartActive 1
  pub halt : Stores phase.Halt 2
  pub clear : Stores phase.Clear 4
  pub start_pending : Stores (Pending function.Start) 9
  pub halt_pending : Stores (Pending function.Halt) 10
  pub clear_pending : Stores (Pending function.Clear) 12
  pub halt_tested : Tests (Pending function.Halt) 10
  pub clear_tested : Tests (Pending function.Clear) 12

-- HALT finds a clear in progress, and gives way; CLEAR doesn't give way to a halt
pub record HaltAndClear : Type 0 where
  pub halt : Refuses seen_by_lpa (enabled_in phase.Clear) Halt 2
  pub clear : Does seen_by_lpa (enabled_in phase.Halt) Clear (Code 0) (enabled_in phase.Clear)

-- Orders on a subchannel of device 1002 of the example deck, and what they answer and leave, as it
-- is stated by hand.
use Rattle.std.specs.Prelude.{◌≡◌, ℕ, true, [], ◌∷◌}
use Rattle.iocm_types.specs.declared.live.Phase.{Phase}
use Rattle.iocm_types.specs.declared.live.Phase.TheVariants.{Idle, StartPending, StartActive, Pending}
use Rattle.iocm_types.specs.declared.live.Phase.TheVariants as phase
use Rattle.iocm_types.specs.declared.live.Live.{Live}
use Rattle.iocm_types.specs.declared.order.Order.{Order}
use Rattle.iocm_types.specs.declared.order.Order.TheVariants.{Start, Halt, Clear, Cancel, Test, Store, Modify}
use Rattle.iocm_types.specs.declared.order.Io.{Io}
use Rattle.iocm_types.specs.declared.order.Io.TheVariants.{Code, Status, Stored}
use Rattle.iocm_types.specs.declared.view.View.{View}
use Rattle.iocm_types.specs.declared.live.Function.TheVariants as function
use Rattle.iocm_model.specs.Operation.Orders.{fresh, answer_of, live_after, live_after_device_begin}
use Rattle.iocm_model.specs.Operation.Orders.{live_after_device_end}

-- LPA's view of 1002, and LPB's, to which path 51 isn't available
abbrev pub seen_by_lpa : View
seen_by_lpa = record { device = 0x1002; paths = 0x50 ∷ 0x51 ∷ []; pim = 0xC0; pam = 0xC0 }

abbrev pub seen_by_lpb : View
seen_by_lpb = record { device = 0x1002; paths = 0x50 ∷ 0x51 ∷ []; pim = 0xC0; pam = 0x80 }

-- enabled, with path 50 alone in the logical-path mask and the parameter 7, in some phase
abbrev pub enabled_in : Phase → Live
enabled_in phase = record { enabled = true; lpm = 0x80; parm = 7; phase = phase }

-- MODIFY with these, which a fresh subchannel takes
abbrev pub enable : Order
enable = Modify (record { enabled = true; lpm = 0x80; parm = 7 })

-- an order gives this answer, and leaves this
pub record Does (v : View) (l : Live) (o : Order) (answer : Io) (left : Live) : Type 0 where
  pub answers : answer_of o v l ≡ answer
  pub leaves : live_after o v l ≡ left

-- enabled by MODIFY, started, begun and ended by the device, and tested: TEST gives the start
-- function with status pending, 9
pub record AnOperation : Type 0 where
  pub enabled : Does seen_by_lpa (fresh 0xC0) enable (Code 0) (enabled_in Idle)
  pub started : Does seen_by_lpa (enabled_in Idle) Start (Code 0) (enabled_in StartPending)
  pub begun : live_after_device_begin (enabled_in StartPending) ≡ enabled_in StartActive
  pub ended : live_after_device_end (enabled_in StartActive) ≡ enabled_in (Pending function.Start)
  pub tested : Does seen_by_lpa (enabled_in (Pending function.Start)) Test (Status (record { 0 = 9 })) (enabled_in Idle)
  pub stored : Does seen_by_lpa (enabled_in Idle) Store
      (Stored (record {
        device = 0x1002;
        pim = 0xC0;
        pam = 0xC0;
        lpm = 0x80;
        enabled = true;
        parm = 7;
        bits = record { 0 = 0 };
      }))
      (enabled_in Idle)

-- an order that isn't accepted gives its condition code and leaves the subchannel as it was
abbrev pub Refuses : View → Live → Order → ℕ → Type 0
Refuses v l o code = Does v l o (Code code) l

-- condition code 3: not enabled, or START with no path that is both available and in the mask; it
-- comes before 1 and 2
pub record NotOperational : Type 0 where
  pub start : Refuses seen_by_lpa (fresh 0xC0) Start 3
  pub halt : Refuses seen_by_lpa (fresh 0xC0) Halt 3
  pub clear : Refuses seen_by_lpa (fresh 0xC0) Clear 3
  pub cancel : Refuses seen_by_lpa (fresh 0xC0) Cancel 3
  pub test : Refuses seen_by_lpa (fresh 0xC0) Test 3
  pub no_path : Refuses seen_by_lpb (record { enabled = true; lpm = 0x40; parm = 0; phase = Idle }) Start 3
  pub no_path_first : Refuses seen_by_lpb (record { enabled = true; lpm = 0x40; parm = 0; phase = StartActive }) Start 3

-- condition code 1: status is pending; for TEST, that none is
pub record StatusInTheWay : Type 0 where
  pub start : Refuses seen_by_lpa (enabled_in (Pending function.Start)) Start 1
  pub halt : Refuses seen_by_lpa (enabled_in (Pending function.Start)) Halt 1
  pub modify : Refuses seen_by_lpa (enabled_in (Pending function.Start)) enable 1
  pub cancel : Refuses seen_by_lpa (enabled_in (Pending function.Start)) Cancel 1
  pub test : Refuses seen_by_lpa (enabled_in Idle) Test 1
  pub test_pending_start : Refuses seen_by_lpa (enabled_in StartPending) Test 1
  pub test_busy : Refuses seen_by_lpa (enabled_in StartActive) Test 1

-- condition code 2: a function is in progress; HALT gives way only to a halt or a clear
pub record BusyWithAnother : Type 0 where
  pub start : Refuses seen_by_lpa (enabled_in StartActive) Start 2
  pub modify : Refuses seen_by_lpa (enabled_in StartActive) enable 2
  pub halt_twice : Refuses seen_by_lpa (enabled_in phase.Halt) Halt 2
  pub halt : Does seen_by_lpa (enabled_in StartActive) Halt (Code 0) (enabled_in phase.Halt)
  pub clear_pending : Does seen_by_lpa (enabled_in (Pending function.Start)) Clear (Code 0) (enabled_in phase.Clear)
  pub clear_twice : Does seen_by_lpa (enabled_in phase.Clear) Clear (Code 0) (enabled_in phase.Clear)

-- a start that is pending: CANCEL takes it back, and finds none in any other phase; other orders
-- find it in progress
pub record APendingStart : Type 0 where
  pub cancelled : Does seen_by_lpa (enabled_in StartPending) Cancel (Code 0) (enabled_in Idle)
  pub idle : Refuses seen_by_lpa (enabled_in Idle) Cancel 2
  pub active : Refuses seen_by_lpa (enabled_in StartActive) Cancel 2
  pub halting : Refuses seen_by_lpa (enabled_in phase.Halt) Cancel 2
  pub clearing : Refuses seen_by_lpa (enabled_in phase.Clear) Cancel 2
  pub start : Refuses seen_by_lpa (enabled_in StartPending) Start 2
  pub modify : Refuses seen_by_lpa (enabled_in StartPending) enable 2
  pub halt : Does seen_by_lpa (enabled_in StartPending) Halt (Code 0) (enabled_in phase.Halt)
  pub clear : Does seen_by_lpa (enabled_in StartPending) Clear (Code 0) (enabled_in phase.Clear)
  pub ended : live_after_device_end (enabled_in StartPending) ≡ enabled_in (Pending function.Start)
  pub begun_once : live_after_device_begin (enabled_in StartActive) ≡ enabled_in StartActive
  pub not_begun : live_after_device_begin (enabled_in phase.Halt) ≡ enabled_in phase.Halt

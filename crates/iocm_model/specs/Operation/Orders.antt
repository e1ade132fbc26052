-- The seven orders, the device begin and the device end, on a live record and its view. Principles
-- of Operation, START, HALT, CLEAR, CANCEL, TEST, MODIFY and STORE SUBCHANNEL; that condition code
-- 3 is tried before 1, and 1 before 2, that a subchannel without a view counts as not provided, and
-- START's test of the paths, are own.
use Rattle.std.specs.Prelude.{ℕ, ◌+◌, ◌==◌, ◌||◌, Bool, true, false, not, bit_and, if◌then◌else◌}
use Rattle.iocm_types.specs.declared.live.Function.{Function}
use Rattle.iocm_types.specs.declared.live.Function.TheVariants as function
use Rattle.iocm_types.specs.declared.live.Phase.{Phase}
use Rattle.iocm_types.specs.declared.live.Phase.TheVariants.{Idle, StartPending, StartActive, Pending}
use Rattle.iocm_types.specs.declared.live.Phase.TheVariants as phase
use Rattle.iocm_types.specs.declared.live.Live.{Live}
use Rattle.iocm_types.specs.declared.order.Order.{Order}
use Rattle.iocm_types.specs.declared.order.Order.TheVariants.{Start, Halt, Clear, Cancel, Test, Store, Modify}
use Rattle.iocm_types.specs.declared.order.Io.{Io}
use Rattle.iocm_types.specs.declared.order.Io.TheVariants.{Code, Status, Stored}
use Rattle.iocm_types.specs.declared.scsw.ScswBits.{ScswBits}
use Rattle.iocm_types.specs.declared.view.View.{View}

-- a live record that nobody has touched: not enabled, all installed paths, parameter 0, idle
abbrev pub fresh : ℕ → Live
fresh pim = record { enabled = false; lpm = pim; parm = 0; phase = Idle }

-- the subchannel can be altered: nothing is in progress and nothing is pending
abbrev pub is_quiet : Phase → Bool
is_quiet Idle = true
is_quiet _ = false

-- a function is in progress
abbrev pub is_busy : Phase → Bool
is_busy StartPending = true
is_busy StartActive = true
is_busy phase.Halt = true
is_busy phase.Clear = true
is_busy _ = false

-- a start is accepted, and the device hasn't begun yet
abbrev pub is_start_pending : Phase → Bool
is_start_pending StartPending = true
is_start_pending _ = false

-- status is pending
abbrev pub is_pending : Phase → Bool
is_pending (Pending f) = true
is_pending _ = false

-- a halt or a clear function is in progress
abbrev pub is_halting_or_clearing : Phase → Bool
is_halting_or_clearing phase.Halt = true
is_halting_or_clearing phase.Clear = true
is_halting_or_clearing _ = false

-- the bit of a function, and the bits of a phase: the function's, a pending start's too, and 8 more
-- while its status is pending
abbrev pub function_bit : Function → ℕ
function_bit function.Start = 1
function_bit function.Halt = 2
function_bit function.Clear = 4

abbrev pub bits_of : Phase → ScswBits
bits_of Idle = record { 0 = 0 }
bits_of StartPending = record { 0 = function_bit function.Start }
bits_of StartActive = record { 0 = function_bit function.Start }
bits_of phase.Halt = record { 0 = function_bit function.Halt }
bits_of phase.Clear = record { 0 = function_bit function.Clear }
bits_of (Pending f) = record { 0 = 8 + function_bit f }

-- condition code 3: not enabled, or for START no path that is both available and in the
-- logical-path mask; MODIFY and STORE are there for a subchannel that is not enabled
abbrev pub is_not_operational : Order → View → Live → Bool
is_not_operational Start v l = not l.enabled || (bit_and l.lpm v.pam == 0)
is_not_operational Halt v l = not l.enabled
is_not_operational Clear v l = not l.enabled
is_not_operational Cancel v l = not l.enabled
is_not_operational Test v l = not l.enabled
is_not_operational (Modify s) v l = false
is_not_operational Store v l = false

-- condition code 1: status is pending; for TEST, that none is; CLEAR and STORE never give it
abbrev pub is_status_in_the_way : Order → Phase → Bool
is_status_in_the_way Start p = is_pending p
is_status_in_the_way Halt p = is_pending p
is_status_in_the_way Cancel p = is_pending p
is_status_in_the_way (Modify s) p = is_pending p
is_status_in_the_way Test p = not (is_pending p)
is_status_in_the_way Clear p = false
is_status_in_the_way Store p = false

-- condition code 2: a function is in progress; for HALT a halt or clear function; for CANCEL, that
-- no start is pending; CLEAR, TEST and STORE never give it
abbrev pub is_phase_in_the_way : Order → Phase → Bool
is_phase_in_the_way Start p = is_busy p
is_phase_in_the_way (Modify s) p = is_busy p
is_phase_in_the_way Halt p = is_halting_or_clearing p
is_phase_in_the_way Cancel p = not (is_start_pending p)
is_phase_in_the_way Clear p = false
is_phase_in_the_way Test p = false
is_phase_in_the_way Store p = false

-- the condition code of an order where the subchannel has a view: 3, 1, 2 or 0, tried in this order
abbrev pub code_of : Order → View → Live → ℕ
code_of o v l =
    if is_not_operational o v l then 3
    else if is_status_in_the_way o l.phase then 1
    else if is_phase_in_the_way o l.phase then 2
    else 0

-- what an order with condition code 0 answers
abbrev pub answer_if_accepted : Order → View → Live → Io
answer_if_accepted Test v l = Status (bits_of l.phase)
answer_if_accepted Store v l =
    Stored (record {
      device = v.device;
      pim = v.pim;
      pam = v.pam;
      lpm = l.lpm;
      enabled = l.enabled;
      parm = l.parm;
      bits = bits_of l.phase;
    })
answer_if_accepted _ v l = Code 0

-- what it leaves
abbrev pub live_if_accepted : Order → Live → Live
live_if_accepted Start l = record l { phase = StartPending }
live_if_accepted Halt l = record l { phase = phase.Halt }
live_if_accepted Clear l = record l { phase = phase.Clear }
live_if_accepted Cancel l = record l { phase = Idle }
live_if_accepted Test l = record l { phase = Idle }
live_if_accepted (Modify s) l = record l { enabled = s.enabled; lpm = s.lpm; parm = s.parm }
live_if_accepted Store l = l

-- the answer to an order, and what it leaves, where the subchannel has a view
abbrev pub answer_of : Order → View → Live → Io
answer_of o v l = let code = code_of o v l in if code == 0 then answer_if_accepted o v l else Code code

abbrev pub live_after : Order → View → Live → Live
live_after o v l = if code_of o v l == 0 then live_if_accepted o l else l

-- a device begin makes a pending start active, and else changes nothing
abbrev pub phase_after_device_begin : Phase → Phase
phase_after_device_begin StartPending = StartActive
phase_after_device_begin p = p

abbrev pub live_after_device_begin : Live → Live
live_after_device_begin l = record l { phase = phase_after_device_begin l.phase }

-- a device end turns a function in progress into its pending status, and else changes nothing
abbrev pub phase_after_device_end : Phase → Phase
phase_after_device_end StartPending = Pending function.Start
phase_after_device_end StartActive = Pending function.Start
phase_after_device_end phase.Halt = Pending function.Halt
phase_after_device_end phase.Clear = Pending function.Clear
phase_after_device_end p = p

abbrev pub live_after_device_end : Live → Live
live_after_device_end l = record l { phase = phase_after_device_end l.phase }

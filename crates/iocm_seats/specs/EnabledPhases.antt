-- Whether a subchannel is enabled, and its phase, by the byte that keeps both.
use Rattle.std.specs.Prelude.{Bool, false, true}
use Rattle.iocm_types.specs.declared.live.Function.TheVariants as function
use Rattle.iocm_types.specs.declared.live.Phase.{Phase}
use Rattle.iocm_types.specs.declared.live.Phase.TheVariants.{Idle, StartPending, StartActive, Halt, Clear, Pending}
use Rattle.iocm_seats.specs.declared.enabled_phase.EnabledPhase.{EnabledPhase}
use Rattle.iocm_seats.specs.declared.enabled_phase.EnabledPhase.TheVariants.{DisabledIdle, DisabledStartPending}
use Rattle.iocm_seats.specs.declared.enabled_phase.EnabledPhase.TheVariants.{DisabledStartActive, DisabledHalt}
use Rattle.iocm_seats.specs.declared.enabled_phase.EnabledPhase.TheVariants.{DisabledClear}
use Rattle.iocm_seats.specs.declared.enabled_phase.EnabledPhase.TheVariants.{DisabledStartStatusPending}
use Rattle.iocm_seats.specs.declared.enabled_phase.EnabledPhase.TheVariants.{DisabledHaltStatusPending}
use Rattle.iocm_seats.specs.declared.enabled_phase.EnabledPhase.TheVariants.{DisabledClearStatusPending}
use Rattle.iocm_seats.specs.declared.enabled_phase.EnabledPhase.TheVariants.{EnabledIdle, EnabledStartPending}
use Rattle.iocm_seats.specs.declared.enabled_phase.EnabledPhase.TheVariants.{EnabledStartActive, EnabledHalt}
use Rattle.iocm_seats.specs.declared.enabled_phase.EnabledPhase.TheVariants.{EnabledClear}
use Rattle.iocm_seats.specs.declared.enabled_phase.EnabledPhase.TheVariants.{EnabledStartStatusPending}
use Rattle.iocm_seats.specs.declared.enabled_phase.EnabledPhase.TheVariants.{EnabledHaltStatusPending}
use Rattle.iocm_seats.specs.declared.enabled_phase.EnabledPhase.TheVariants.{EnabledClearStatusPending}

-- whether it is enabled
abbrev pub is_enabled : EnabledPhase → Bool
is_enabled DisabledIdle = false
is_enabled DisabledStartPending = false
is_enabled DisabledStartActive = false
is_enabled DisabledHalt = false
is_enabled DisabledClear = false
is_enabled DisabledStartStatusPending = false
is_enabled DisabledHaltStatusPending = false
is_enabled DisabledClearStatusPending = false
is_enabled EnabledIdle = true
is_enabled EnabledStartPending = true
is_enabled EnabledStartActive = true
is_enabled EnabledHalt = true
is_enabled EnabledClear = true
is_enabled EnabledStartStatusPending = true
is_enabled EnabledHaltStatusPending = true
is_enabled EnabledClearStatusPending = true

-- its phase
abbrev pub phase_of : EnabledPhase → Phase
phase_of DisabledIdle = Idle
phase_of DisabledStartPending = StartPending
phase_of DisabledStartActive = StartActive
phase_of DisabledHalt = Halt
phase_of DisabledClear = Clear
phase_of DisabledStartStatusPending = Pending function.Start
phase_of DisabledHaltStatusPending = Pending function.Halt
phase_of DisabledClearStatusPending = Pending function.Clear
phase_of EnabledIdle = Idle
phase_of EnabledStartPending = StartPending
phase_of EnabledStartActive = StartActive
phase_of EnabledHalt = Halt
phase_of EnabledClear = Clear
phase_of EnabledStartStatusPending = Pending function.Start
phase_of EnabledHaltStatusPending = Pending function.Halt
phase_of EnabledClearStatusPending = Pending function.Clear

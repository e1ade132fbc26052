-- Calls that are handed back.
use Rattle.std.specs.Prelude.{◌≡◌, ℕ, ◌≤◌}
use Rattle.iocm_types.specs.declared.rule.Rule.{Rule}
use Rattle.iocm_types.specs.declared.rule.Rule.TheVariants as rules
use Rattle.iocm_board.specs.Views.{Held, sees}
use Rattle.iocm_system.specs.Sights.{Sight, sees_now}

-- a call was handed back by O3: the seat has then seen as many calls as there is room for, and
-- nothing else changed; or by X1: it is as it was
abbrev pub IsBackAt : ℕ → Rule → Held → Held → Type 0
IsBackAt room rules.O3 old new = (old.view.seen ≤ room)
    × ◌≡◌ {A = Held} new (record { tag = old.tag; view = sees old.view room })
IsBackAt room rules.X1 old new = new ≡ old
IsBackAt room _ old new = ⊥

-- the same of a caller
abbrev pub IsBack : Rule → Sight → Sight → Type 0
IsBack rules.O3 old new = (old.seen ≤ old.origin.room) × (new ≡ sees_now old old.origin.room)
IsBack rules.X1 old new = new ≡ old
IsBack _ old new = ⊥

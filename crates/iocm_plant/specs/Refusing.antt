-- Why a call on a machine is refused: by its definition, or for lack of memory.
use Rattle.std.specs.Prelude.{◌≡◌, Bool, if◌then◌else◌, Option, None, Some, ◌⊎◌}
use Rattle.std.specs.Option.{option_map, option_or}
use Rattle.std.specs.FinMap.{contains_key}
use Rattle.iocm_types.specs.declared.key.Key as keys
use Rattle.iocm_types.specs.declared.refused.At.TheVariants.{Key, Nothing}
use Rattle.iocm_types.specs.declared.refused.Refused.{Refused}
use Rattle.iocm_types.specs.declared.rule.Rule.TheVariants.{E4, M1}
use Rattle.iocm_types.specs.declared.sub_id.SubId.{SubId}
use Rattle.iocm_model.specs.Machine.Configuration.{Configuration}
use Rattle.iocm_model.specs.Machine.Numbering.{opening}
use Rattle.iocm_model.specs.Rules.FirstBreach.{Breach, first_breach}
use Rattle.iocm_model.specs.Operation.State.{State}
use Rattle.iocm_model.specs.Change.Edit.{Edit, action_key, config_after, altered_by}
use Rattle.iocm_model.specs.Change.Refusal.{refusal_at, refusal_by_key, refusal_by_subchannel}
use Rattle.iocm_model.specs.Change.Refusal.{is_number_taken, first_not_quiet}
use Rattle.iocm_plant.specs.declared.quiet.Quiet.{Quiet}
use Rattle.iocm_plant.specs.declared.quiet.Quiet.TheVariants.{Wanted, Whatever}
use Rattle.iocm_plant.specs.declared.obstacle.Obstacle.{Obstacle}
use Rattle.iocm_plant.specs.declared.obstacle.Obstacle.TheVariants as obstacle

-- lack of memory
abbrev pub no_memory : Refused
no_memory = refusal_at M1 Nothing

-- a refusal is the one that is due, or lack of memory
abbrev pub IsDue : Option Refused → Refused → Type 0
IsDue due why = (due ≡ Some why) ⊎ (why ≡ no_memory)

-- what stands in the way is the refusal that is due, or lack of memory
abbrev pub Hinders : Option Refused → Obstacle → Type 0
Hinders due (obstacle.Refused why) = due ≡ Some why
Hinders due obstacle.NoMemory = Unit {0}

-- a breach of the rules, of the record that it names
abbrev pub refusal_by_breach : Option Breach → Option Refused
refusal_by_breach found = option_map (λ (b : Breach). refusal_at b.rule (Key b.key)) found

-- why a machine is not opened with a configuration, if it isn't
abbrev pub opening_refusal : Configuration → Option Refused
opening_refusal c = refusal_by_breach (first_breach c (opening c))

-- E4 names the key
abbrev pub refusal_by_number : keys.Key → Bool → Option Refused
refusal_by_number key taken = if taken then Some (refusal_at E4 (Key key)) else None

-- B1 names the subchannel, where altered subchannels have to be quiet
abbrev pub refusal_by_quiet : Quiet → Option SubId → Option Refused
refusal_by_quiet Wanted found = refusal_by_subchannel found
refusal_by_quiet Whatever found = None

-- why an edit is refused where altered subchannels have to be quiet, or where they needn't be
abbrev pub refusal_when : Quiet → Edit → State → Option Refused
refusal_when quiet e s =
    option_or (refusal_by_key e.action (contains_key s.config (action_key e.action)))
    (option_or (refusal_by_number (action_key e.action)
    (is_number_taken (config_after e.action s.config) s.numbers e.places))
    (refusal_by_quiet quiet (first_not_quiet s.lives (altered_by e s))))

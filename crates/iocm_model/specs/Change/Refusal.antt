-- When an edit is refused.
use Rattle.std.specs.Prelude.{◌≡◌, ℕ, ◌==◌, Bool, true, false, ◌&&◌, ◌||◌, not, if◌then◌else◌}
use Rattle.std.specs.Prelude.{Option, None, Some, List, [], ◌∷◌, filter}
use Rattle.std.specs.List.{list_any, find}
use Rattle.std.specs.Option.{option_map, option_or}
use Rattle.std.specs.FinMap.{get, entries, contains_key}
use Rattle.iocm_types.specs.declared.live.Live.{Live}
use Rattle.iocm_types.specs.declared.place.Place.{Place}
use Rattle.iocm_types.specs.declared.refused.At.{At}
use Rattle.iocm_types.specs.declared.refused.At.TheVariants.{Key, Subchannel}
use Rattle.iocm_types.specs.declared.refused.Refused.{Refused}
use Rattle.iocm_types.specs.declared.rule.Rule.{Rule}
use Rattle.iocm_types.specs.declared.rule.Rule.TheVariants.{E1, E2, E4, B1}
use Rattle.iocm_types.specs.declared.sub_id.SubId.{SubId}
use Rattle.iocm_model.specs.Machine.Record.{key_of}
use Rattle.iocm_model.specs.Machine.Configuration.{Configuration}
use Rattle.iocm_model.specs.Machine.Numbering.{Numbering}
use Rattle.iocm_model.specs.Change.Renumbering.{comes_in, without_leavers}
use Rattle.iocm_model.specs.Operation.Orders.{is_quiet}
use Rattle.iocm_model.specs.Operation.State.{State, Lives, is_among}
use Rattle.iocm_model.specs.Change.Edit.{Action, add, delete, modify, Edit, action_key, config_after, altered_by}

-- a refusal that names no node of a tree
abbrev pub refusal_at : Rule → At → Refused
refusal_at rule at = record { rule = rule; node = None; at = at }

-- E1 a key that is there on add, E2 one that isn't on delete or modify
abbrev pub refusal_by_key : Action → Bool → Option Refused
refusal_by_key (add r) true = Some (refusal_at E1 (Key (key_of r)))
refusal_by_key (delete key) false = Some (refusal_at E2 (Key key))
refusal_by_key (modify r) false = Some (refusal_at E2 (Key (key_of r)))
refusal_by_key _ _ = None

-- one number of one channel subsystem and set
abbrev pub same_cell : Place × ℕ → Place × ℕ → Bool
same_cell a b = a.0.css == b.0.css && a.0.set == b.0.set && a.1 == b.1

-- two of them are one cell
abbrev pub has_cell_twice : List (Place × ℕ) → Bool
has_cell_twice [] = false
has_cell_twice (p ∷ ps) = list_any (same_cell p) ps || has_cell_twice ps

-- E4: a carried number of a device that comes in is held by a device that stays, or is carried
-- twice
abbrev pub is_number_taken : Configuration → Numbering → List (Place × ℕ) → Bool
is_number_taken c n carried = let arriving = filter (comes_in c n) carried in
    list_any (λ p. list_any (same_cell p) (entries (without_leavers c n))) arriving || has_cell_twice arriving

-- a live record that isn't quiet
abbrev pub is_not_quiet : Option Live → Bool
is_not_quiet (Some l) = not (is_quiet l.phase)
is_not_quiet None = false

-- all of these subchannels are quiet
abbrev pub AreQuiet : Lives → List SubId → Type 0
AreQuiet lives xs = (x : SubId) → is_among x xs ≡ true → is_not_quiet (get lives x) ≡ false

-- the first of these subchannels whose live record isn't quiet; of subchannels in order, the least
abbrev pub first_not_quiet : Lives → List SubId → Option SubId
first_not_quiet lives xs = find (λ x. is_not_quiet (get lives x)) xs

-- B1 names the subchannel
abbrev pub refusal_by_subchannel : Option SubId → Option Refused
refusal_by_subchannel found = option_map (λ x. refusal_at B1 (Subchannel x)) found

-- why an edit is refused in a state, if it is: E1 or E2, then E4, then B1 with the least altered
-- subchannel that isn't quiet
abbrev pub refusal_of : Edit → State → Option Refused
refusal_of e s =
    option_or (refusal_by_key e.action (contains_key s.config (action_key e.action)))
    (option_or
    (if is_number_taken (config_after e.action s.config) s.numbers e.places
    then Some (refusal_at E4 (Key (action_key e.action))) else None)
    (refusal_by_subchannel (first_not_quiet s.lives (altered_by e s))))

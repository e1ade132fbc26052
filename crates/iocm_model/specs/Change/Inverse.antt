-- The edit that takes an edit back.
use Rattle.std.specs.Prelude.{ℕ, not, Option, None, Some, List, filter}
use Rattle.std.specs.FinMap.{get, entries, contains_key, retain_keys}
use Rattle.iocm_types.specs.declared.key.Key.{Key}
use Rattle.iocm_types.specs.declared.place.Place.{Place}
use Rattle.iocm_model.specs.Machine.Record.{Rec}
use Rattle.iocm_model.specs.Machine.Numbering.{Numbering}
use Rattle.iocm_model.specs.Operation.State.{State}
use Rattle.iocm_model.specs.Change.Edit.{Action, add, delete, modify, Edit, action_key}
use Rattle.iocm_model.specs.Change.Edit.{record_after, state_after, is_altered}

-- what brings the old record of a key back
abbrev pub action_back : Key → Option Rec → Option Rec → Action
action_back key (Some old) (Some new) = modify old
action_back key (Some old) None = add old
action_back key None after = delete key

-- the numbers that were freed, with the places that had them
abbrev pub freed_numbers : Numbering → Numbering → List (Place × ℕ)
freed_numbers before after = filter (λ (p : Place × ℕ). not (contains_key after p.0)) (entries before)

-- the inverse of an edit in a state: the old record, the numbers that were freed, and the live
-- records that altered subchannels had
abbrev pub inverse_of : Edit → State → Edit
inverse_of e s = let t = state_after e s in record {
  action = action_back (action_key e.action) (get s.config (action_key e.action)) (record_after e.action);
  places = freed_numbers s.numbers t.numbers;
  lives = retain_keys s.lives (is_altered s t);
}

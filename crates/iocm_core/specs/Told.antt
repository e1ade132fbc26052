-- What a trace tells: its entries, the latest first, each with what its change wrote.
use Rattle.std.specs.Prelude.{◌≡◌, ℕ, ◌+◌, ◌-◌, ◌≤◌, List, [], ◌∷◌, ◌++◌, length, map, reverse}
use Rattle.std.specs.List.{slice_get}
use Rattle.std.specs.Option.{option_map_or}
use Rattle.iocm_types.specs.declared.answer.Answer.{Answer}
use Rattle.iocm_types.specs.declared.answer.Answer.TheVariants as answers
use Rattle.iocm_model.specs.Change.Effect as model
use Rattle.iocm_history.specs.Entry as history
use Rattle.iocm_activate.specs.Effects.{effect_in}
use Rattle.iocm_activate.specs.declared.effect.Effect.{Effect}
use Rattle.iocm_core.specs.Calls.{call_in}
use Rattle.iocm_core.specs.declared.trace.Entry.{Entry}

-- what the change that an answer tells of wrote; nothing, if it tells of none
abbrev pub effect_told : List Effect → Answer → model.Effect
effect_told fs (answers.Changed n) = option_map_or effect_in (slice_get fs (n - 1)) history.no_effect
effect_told fs _ = history.no_effect

-- an entry of the history
abbrev pub entry_told : List Effect → history.Call → Answer → history.Entry
entry_told fs call answer = record { call = call; answer = answer; effect = effect_told fs answer }

abbrev pub entry_in : List Effect → Entry → history.Entry
entry_in fs e = entry_told fs (call_in e.call) e.answer

-- the history of entries in their order
abbrev pub history_in : List Effect → List Entry → history.History
history_in fs es = reverse (map (entry_in fs) es)

-- an answer tells of one of so many changes, if of any
abbrev pub IsWithin : ℕ → Answer → Type 0
IsWithin count (answers.Changed n) = (1 ≤ n) × (n ≤ count)
IsWithin count _ = Unit {0}

-- what changes wrote after an answer: one more, if it tells of a new change
abbrev pub GoesOnWith : Answer → List Effect → List Effect → Type 0
GoesOnWith (answers.Changed n) old new = (f : Effect) × ((new ≡ old ++ f ∷ []) × (n ≡ length old + 1))
GoesOnWith _ old new = new ≡ old

-- a history is what entries tell, with what some changes wrote
abbrev pub IsTold : history.History → List Entry → Type 0
IsTold h es = (fs : List Effect) × (h ≡ history_in fs es)

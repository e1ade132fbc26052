-- Whether a change fits a state: its inverse edits, performed there whether subchannels are quiet
-- or not, take back edit by edit just what the edits did, and the rules hold at the end.
use Rattle.std.specs.Prelude.{◌==◌, Bool, false, ◌&&◌, ◌||◌, not, if◌then◌else◌}
use Rattle.std.specs.Prelude.{Option, None, Some, List, [], ◌∷◌, ◌++◌}
use Rattle.std.specs.List.{list_all}
use Rattle.std.specs.Option.{option_eq, option_and_then, is_some}
use Rattle.std.specs.declared.cmp.Ordering.{Ordering}
use Rattle.std.specs.FinMap.{FinMap, get, keys, contains_key}
use Rattle.iocm_model.specs.Machine.Numbering.{cells_of}
use Rattle.iocm_model.specs.Rules.FirstBreach.{first_breach}
use Rattle.iocm_model.specs.Operation.State.{State, views_in}
use Rattle.iocm_model.specs.Change.Edit.{Edit, action_key, config_after, same_view, state_after}
use Rattle.iocm_model.specs.Change.Refusal.{refusal_by_key, is_number_taken}
use Rattle.iocm_model.specs.Change.Inverse.{inverse_of}
use Rattle.iocm_history.specs.Change.{Change}

-- one cell before and after an edit, and before and after its inverse: what the edit left alone the
-- inverse leaves alone, and what the edit changed the inverse changes from the value after the edit
-- to the one before
abbrev pub goes_back_at : {X : Type 0} → (X → X → Bool) → Option X → Option X → Option X → Option X → Bool
goes_back_at same old new here there =
    if option_eq same old new then option_eq same here there else option_eq same here new && option_eq same there old

-- all cells of these maps
abbrev pub goes_back : {K X : Type 0} {R : K → K → Ordering} → (X → X → Bool) → FinMap R X → FinMap R X
    → FinMap R X → FinMap R X → Bool
goes_back same old new here there =
    list_all (λ key. goes_back_at same (get old key) (get new key) (get here key) (get there key))
    (keys old ++ (keys new ++ (keys here ++ keys there)))

-- an edit that is refused though every subchannel be quiet: by its key (E1, E2), or for a number
-- that is taken (E4)
abbrev pub is_barred : Edit → State → Bool
is_barred e u = is_some (refusal_by_key e.action (contains_key u.config (action_key e.action)))
    || is_number_taken (config_after e.action u.config) u.numbers e.places

-- an edit that was performed in one state is taken back in another: its number cells and its views
-- go back
abbrev pub goes_back_in : Edit → State → State → Bool
goes_back_in e s u = let t = state_after e s in let v = state_after (inverse_of e s) u in
    not (is_barred (inverse_of e s) u)
    && goes_back ◌==◌ (cells_of s.numbers) (cells_of t.numbers) (cells_of u.numbers) (cells_of v.numbers)
    && goes_back same_view (views_in s) (views_in t) (views_in u) (views_in v)

-- the state that its inverse leaves, if it goes back
abbrev pub state_before : Edit → State → State → Option State
state_before e s u = if goes_back_in e s u then Some (state_after (inverse_of e s) u) else None

-- the same of edits one after the other, the last first
abbrev pub state_before_all : List Edit → State → State → Option State
state_before_all [] s u = Some u
state_before_all (e ∷ es) s u = option_and_then (state_before e s) (state_before_all es (state_after e s) u)

-- there is a state, and the rules hold in it
abbrev pub keeps_the_rules : Option State → Bool
keeps_the_rules (Some v) = not (is_some (first_breach v.config v.numbers))
keeps_the_rules None = false

abbrev pub fits : Change → State → Bool
fits c u = keeps_the_rules (state_before_all c.edits c.from u)

-- What a history comes to: its entries with their marks, what is staged, and the state.
use Rattle.std.specs.Prelude.{ℕ, List, [], ◌∷◌, Option, None, Some}
use Rattle.std.specs.FinMap.{get}
use Rattle.iocm_types.specs.declared.answer.Answer.{Answer}
use Rattle.iocm_types.specs.declared.answer.Answer.TheVariants as answers
use Rattle.iocm_model.specs.Operation.State.{State}
use Rattle.iocm_model.specs.Operation.Step.{after_step}
use Rattle.iocm_model.specs.Change.Meaning.{meaning}
use Rattle.iocm_history.specs.Entry.{Call, at, activate, commit, undo, History}
use Rattle.iocm_history.specs.Store.{Store, store_of, state_of, store_with}
use Rattle.iocm_history.specs.Change.{change_of}
use Rattle.iocm_history.specs.MarkedEntry.{Act, step, change, undoing, nothing, kept, MarkedEntry}
use Rattle.iocm_history.specs.MarkedEntry.{effect_of_entry, entries_after}
use Rattle.iocm_history.specs.Stage.{Stage, stage_after}

-- marked entries, the latest first, played from a store: each overwrites its cells
abbrev pub replay : Store → List MarkedEntry → Store
replay m [] = m
replay m (l ∷ ls) = store_with (effect_of_entry l) (replay m ls)

-- what a Commit did with what was staged
abbrev pub committed : ℕ → Option Stage → Act
committed n (Some g) = change n g.change
committed n None = nothing

-- what an entry did, by its call and its answer, in a state and with what was staged
abbrev pub act_of : Call → Answer → State → Option Stage → Act
act_of (at x made) answers.Held s g = nothing
act_of (at x made) answer s g = step x made (get (after_step x made s).lives x)
act_of (activate p) (answers.Changed n) s g = change n (change_of (meaning p s) s)
act_of commit (answers.Changed n) s g = committed n g
act_of (undo m) (answers.Undone n) s g = undoing n
act_of _ _ s g = nothing

pub record Account : Type 0 where
  pub entries : List MarkedEntry
  pub stage : Option Stage

-- the state that an account of a history comes to, from the state in which it was opened
abbrev pub state_in : State → Account → State
state_in opening a = state_of (replay (store_of opening) a.entries)

-- the account after a call and its answer in a state: the new entry counts
abbrev pub account_after : Call → Answer → State → Account → Account
account_after call answer s a = record {
  entries = record { act = act_of call answer s a.stage; mark = kept } ∷ entries_after answer a.entries;
  stage = stage_after call answer s a.stage;
}

-- the account of a history that was opened in a state
unfoldable pub account : State → History → Account
account opening [] = record { entries = []; stage = None }
account opening (e ∷ h) = let a = account opening h in account_after e.call e.answer (state_in opening a) a

abbrev pub marked_entries : State → History → List MarkedEntry
marked_entries opening h = (account opening h).entries

abbrev pub stage_of : State → History → Option Stage
stage_of opening h = (account opening h).stage

-- its state
abbrev pub state_at : State → History → State
state_at opening h = state_in opening (account opening h)

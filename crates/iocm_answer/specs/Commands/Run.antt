-- What a script that is run prints, and how it ends.
use Rattle.std.specs.Prelude.{◌≡◌, ◌⊎◌, ◌-◌, ◌^◌, ℕ, List, [], ◌++◌, length, map, min, Result, Ok, Err}
use Rattle.std.specs.List.{sum_by}
use Rattle.iocm_types.specs.declared.fault.Fault.{Fault}
use Rattle.iocm_core.specs.Seen.{Core}
use Rattle.iocm_model.specs.Machine.Configuration.{Configuration}
use Rattle.iocm_model.specs.Operation.State.{opening_state}
use Rattle.iocm_operation.specs.declared.operated.Operated.{Operated}
use Rattle.iocm_operation.specs.Running.{IsOperation}
use Rattle.iocm_script.specs.Scripts.{Rounds, script_in}
use Rattle.iocm_tree.specs.Trees.{CarriedTree, plain_tree}
use Rattle.iocm_console.specs.declared.refusal.Refusal.{Refusal}
use Rattle.iocm_console.specs.Opening.{opened_deck}
use Rattle.iocm_console.specs.Refusal.{no_memory, of_fault}
use Rattle.iocm_console.specs.Shown.{Shown, done}
use Rattle.iocm_console.specs.Table.{whole_table_in, text_in}
use Rattle.iocm_answer.specs.declared.answer.Answer.{Answer}
use Rattle.iocm_answer.specs.declared.answer.Ran.{Ran}
use Rattle.iocm_answer.specs.Answer.{answer_lines, printed}
use Rattle.iocm_answer.specs.Change.{trees_in}
use Rattle.iocm_answer.specs.declared.manner.Manner.{Manner}
use Rattle.iocm_answer.specs.Manner.{refused, trace_in}

-- the answers, how many calls were made, and the table of the machine that is left
abbrev pub ran : Manner → Operated → List ℕ
ran m o = answer_lines m o.answers.items
    ++ (trace_in m.form (length o.closed.trace.entries.items)
    ++ whole_table_in m.form o.closed.plant.state.config o.closed.plant.state.numbers)

-- the same, ready to be printed
abbrev pub shown_ran : Manner → Ran → List ℕ
shown_ran m r = answer_lines m r.answers.items ++ (trace_in m.form r.calls ++ text_in m.form r.table)

-- a core of this configuration, of which nothing was asked yet, with room for so many calls
abbrev pub new_core : Configuration → ℕ → Core
new_core c room = record { opening = opening_state c; history = []; entries = []; room = room }

-- how many calls a script makes: one for each line of its rounds
abbrev pub calls_in : Rounds → ℕ
calls_in rounds = sum_by length rounds

-- a script is run on the machine of a configuration, with room for so many calls, and this is printed of
-- it
abbrev pub IsRun : Manner → Configuration → ℕ → List CarriedTree → Rounds → Shown → Type 0
IsRun m c room ts rounds shown =
    (o : Operated) × IsOperation (new_core c room) (map plain_tree ts) rounds o × (shown ≡ done (ran m o))

-- what comes first of: a fault of the change decks, one of the script, the run
abbrev pub IsOfScript : Manner → Configuration → List CarriedTree → Result Rounds Fault → Shown → Type 0
IsOfScript m c ts (Ok rounds) shown = IsRun m c (min (calls_in rounds) (2 ^ 64 - 1)) ts rounds shown
IsOfScript m c ts (Err fault) shown = shown ≡ refused m (of_fault fault)

abbrev pub IsOfChanges : Manner → Configuration → Result (List CarriedTree) Fault → Result Rounds Fault → Shown
    → Type 0
IsOfChanges m c (Ok ts) script shown = IsOfScript m c ts script shown
IsOfChanges m c (Err fault) script shown = shown ≡ refused m (of_fault fault)

-- of the bytes of change decks and of a script, on a machine that is opened
abbrev pub IsOfMachine : Manner → Configuration → List (List ℕ) → List ℕ → Shown → Type 0
IsOfMachine m c changes script shown = IsOfChanges m c (trees_in changes) (script_in (length changes) script) shown

-- of the bytes of a deck too: its refusal comes first
abbrev pub IsOfOpened : Manner → Result Configuration Refusal → List (List ℕ) → List ℕ → Shown → Type 0
IsOfOpened m (Ok c) changes script shown = IsOfMachine m c changes script shown
IsOfOpened m (Err why) changes script shown = shown ≡ refused m why

abbrev pub IsOfTexts : Manner → List ℕ → List (List ℕ) → List ℕ → Shown → Type 0
IsOfTexts m deck changes script = IsOfOpened m (opened_deck deck) changes script

-- something of which this holds is printed of what a command gives, or that memory is missing
abbrev pub ShowsOne : Manner → Result Answer Refusal → (Shown → Type 0) → Type 0
ShowsOne m result Is = Is (printed m result) ⊎ (result ≡ Err no_memory)

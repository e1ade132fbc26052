-- Scripts in which each round has the lines of one actor.
use Rattle.std.specs.Prelude.{◌≡◌, ◌≢◌, ℕ, List, ◌++◌, map}
use Rattle.std.specs.List.{AllByRecursion, flat_map}
use Rattle.iocm_core.specs.Calls.{call_in}
use Rattle.iocm_core.specs.Seen as seen
use Rattle.iocm_core.specs.declared.trace.Entry.{Entry}
use Rattle.iocm_history.specs.Entry as history
use Rattle.iocm_history.specs.Entry.{History}
use Rattle.iocm_model.specs.Change.Refusal.{refusal_at}
use Rattle.iocm_model.specs.Change.Tree.{ChangeTree}
use Rattle.iocm_script.specs.declared.line.Line.{Line}
use Rattle.iocm_system.specs.Traces.{history_of}
use Rattle.iocm_types.specs.declared.answer.Answer.TheVariants.{Refused}
use Rattle.iocm_types.specs.declared.refused.At.TheVariants.{Nothing}
use Rattle.iocm_types.specs.declared.rule.Rule.TheVariants.{M1}
use Rattle.iocm_operation.specs.declared.operated.Operated.{Operated}
use Rattle.iocm_operation.specs.Saying.{actor_of, call_said}

-- all lines of a round are of the actor of this number
abbrev pub IsOfOne : ℕ → List Line → Type 0
IsOfOne n ls = AllByRecursion (λ (l : Line). actor_of l.said ≡ n) ls

-- each round has one actor
abbrev pub AreOfOne : List (List Line) → Type 0
AreOfOne rounds = AllByRecursion (λ ls. (n : ℕ) × IsOfOne n ls) rounds

-- the calls that lines ask for, in the order of the lines
abbrev pub calls_of_lines : List ChangeTree → List Line → List history.Call
calls_of_lines ts ls = map (λ (l : Line). call_said ts l.said) ls

-- the calls of entries, in their order
abbrev pub calls_of_entries : List Entry → List history.Call
calls_of_entries es = map (λ (e : Entry). call_in e.call) es

-- the calls are in the trace as their lines are in the script, after those from before
abbrev pub StandAsInTheScript : seen.Core → List ChangeTree → List (List Line) → Operated → Type 0
StandAsInTheScript core ts rounds o =
    calls_of_entries o.closed.trace.entries.items ≡ calls_of_entries core.entries ++ flat_map (calls_of_lines ts) rounds

-- no entry is lack of memory
abbrev pub HadMemory : History → Type 0
HadMemory h = AllByRecursion (λ (e : history.Entry). e.answer ≢ Refused (refusal_at M1 Nothing)) h

-- two runs of a script give each line the same answer, have the same history, and leave the machine
-- in the same state
pub record AreTheSame (o p : Operated) : Type 0 where
  pub answers : o.answers.items ≡ p.answers.items
  pub histories : history_of o.closed ≡ history_of p.closed
  pub states : o.closed.plant.state ≡ p.closed.plant.state

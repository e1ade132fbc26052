-- A walk through a part of a change tree: what it did to the machine, what it kept of that, and
-- what it answered.
use Rattle.std.specs.Prelude.{◌≡◌, ◌≤◌, ℕ, ◌==◌, if◌then◌else◌, List, [], ◌++◌, map, drop, length, Option, None, Some}
use Rattle.std.specs.Prelude.{Ok, Err}
use Rattle.iocm_types.specs.declared.refused.Refused.{Refused}
use Rattle.iocm_model.specs.Operation.State.{State, IsSound}
use Rattle.iocm_model.specs.Change.Edit.{Edit}
use Rattle.iocm_model.specs.Change.Meaning.{Outcome, meaning}
use Rattle.iocm_model.specs.Change.Tree.{ChangeTree}
use Rattle.iocm_model.specs.Change.Runs.{state_after_all, AreAccepted, CarryFreeNumbers}
use Rattle.iocm_model.specs.Laws.Trees.{KeepsTheRules}
use Rattle.iocm_plant.specs.Operating.{Operating, KeepsRoom}
use Rattle.iocm_plant.specs.declared.touched.Applied.{Applied}
use Rattle.iocm_activate.specs.Told.{told_in, told_of_all, key_of_edit, way_back, LeadsTo}
use Rattle.iocm_activate.specs.declared.log.Log.{Log}

-- some edits were accepted and performed, one after the other. The machine is in the state after
-- them, and the log tells of each of them after what it told before. They can be taken back without
-- memory
pub record Ran (before : Operating) (old : Log) (after : Operating) (new : Log) : Type 0 where
  pub edits : List Edit
  pub accepted : AreAccepted edits before.state
  pub state : after.state ≡ state_after_all edits before.state
  pub room : KeepsRoom before.room after.room
  pub done : List Applied
  pub log : new.done.items ≡ old.done.items ++ done
  pub told : map told_in done ≡ told_of_all edits before.state
  pub back : LeadsTo (way_back done) before.state after
  pub keys : new.keys.items ≡ old.keys.items ++ map key_of_edit edits

-- the outcome of a walk that ends in a state with these edits performed, or that was refused
abbrev pub outcome_of : Option Refused → State → List Edit → Outcome
outcome_of None s es = Ok (record { state = s; edits = es })
outcome_of (Some why) s es = Err why

-- a walk answers what the part of the tree means. Where that is a refusal, what it did until then
-- is still done
pub record Answers (meant : Outcome) (before : Operating) (old : Log) (after : Operating) (new : Log)
    (answer : Option Refused) : Type 0 where
  pub ran : Ran before old after new
  pub means : meant ≡ outcome_of answer after.state ran.edits

-- the rules were kept before the edits from a place of the log on
pub record WereKept (log : Log) (s : State) : Type 0 where
  pub before : State
  pub sound : IsSound before
  pub kept : KeepsTheRules before
  pub edits : List Edit
  pub free : CarryFreeNumbers edits before
  pub now : s ≡ state_after_all edits before
  pub keys : drop log.kept log.keys.items ≡ map key_of_edit edits
  pub within : log.kept ≤ length log.keys.items

-- a tree was walked whole, and accepted; the log told of nothing before
pub record WasAccepted (t : ChangeTree) (p q : Operating) (log : Log) : Type 0 where
  pub first : Log
  pub none : first.done.items ≡ []
  pub no_keys : first.keys.items ≡ []
  pub answers : Answers (meaning t p.state) p first q log None

-- from which place on the rules may be broken after one edit more, which left all records as they
-- were
abbrev pub kept_through : Log → Log → ℕ
kept_through old new = if old.kept == length old.keys.items then length new.keys.items else old.kept

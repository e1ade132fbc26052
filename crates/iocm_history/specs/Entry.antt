-- Calls, and the entries of a history. A history is a list of entries, the latest first.
use Rattle.std.specs.Prelude.{ℕ, List}
use Rattle.std.specs.FinMap.{empty}
use Rattle.iocm_types.specs.declared.answer.Answer.{Answer}
use Rattle.iocm_types.specs.declared.sub_id.SubId.{SubId}
use Rattle.iocm_model.specs.Change.Effect.{Effect}
use Rattle.iocm_model.specs.Operation.Step.{Step}
use Rattle.iocm_model.specs.Change.Tree.{ChangeTree}

-- what is asked of a machine: a step at a subchannel, an order of its image, a device begin or a
-- device end; to activate a change tree at once; to begin a change in stages, to advance it by an
-- edit, to commit it or to abort it; to undo or redo the change of a number; to show what it counts
pub data Call : Type 0 where
  at : SubId → Step → Call
  activate : ChangeTree → Call
  begin : ChangeTree → Call
  advance : Call
  commit : Call
  abort : Call
  undo : ℕ → Call
  redo : ℕ → Call
  show : Call

-- an entry: the call, its answer, and what an accepted change wrote
pub record Entry : Type 0 where
  pub call : Call
  pub answer : Answer
  pub effect : Effect

abbrev pub History : Type 0
History = List Entry

-- the effect of what writes nothing
abbrev pub no_effect : Effect
no_effect = record { records = empty; numbers = empty; lives = empty }

-- an entry that wrote nothing
abbrev pub plain_entry : Call → Answer → Entry
plain_entry call answer = record { call = call; answer = answer; effect = no_effect }

-- A change in stages: it is begun, advanced edit by edit, and then committed or aborted. Meanwhile
-- it holds the subchannels that it alters.
use Rattle.std.specs.Prelude.{ℕ, ◌+◌, ◌-◌, Bool, false, length, Option, None, Some}
use Rattle.iocm_types.specs.declared.answer.Answer.{Answer}
use Rattle.iocm_types.specs.declared.answer.Answer.TheVariants as answers
use Rattle.iocm_types.specs.declared.sub_id.SubId.{SubId}
use Rattle.iocm_model.specs.Operation.State.{State, is_among}
use Rattle.iocm_model.specs.Change.Meaning.{meaning}
use Rattle.iocm_history.specs.Entry.{Call, begin, advance, commit, abort}
use Rattle.iocm_history.specs.Change.{Change, change_of, altered}

-- the change as its Begin decided it, and how often it was advanced
pub record Stage : Type 0 where
  pub change : Change
  pub advances : ℕ

-- advanced once more
abbrev pub once_more : Stage → Stage
once_more g = record { change = g.change; advances = g.advances + 1 }

abbrev pub advanced : Option Stage → Option Stage
advanced (Some g) = Some (once_more g)
advanced None = None

-- what is staged after a call and its answer in a state
abbrev pub stage_after : Call → Answer → State → Option Stage → Option Stage
stage_after (begin p) (answers.Staged k) s g = Some (record { change = change_of (meaning p s) s; advances = 0 })
stage_after advance (answers.Left k) s g = advanced g
stage_after commit (answers.Changed n) s g = None
stage_after abort answers.Aborted s g = None
stage_after _ _ s g = g

-- a subchannel is held while a staged change alters it
abbrev pub is_held : SubId → Option Stage → Bool
is_held x (Some g) = is_among x (altered g.change)
is_held x None = false

-- the edits that are left
abbrev pub left_of : Stage → ℕ
left_of g = length g.change.edits - g.advances

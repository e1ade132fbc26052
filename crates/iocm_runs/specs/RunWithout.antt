-- The run without a change: which entries of a history are left when a change goes with the steps
-- on its subchannels.
use Rattle.std.specs.Prelude.{Bool, true, false, ◌&&◌, not, List, ◌++◌, filter}
use Rattle.std.specs.List.{list_any}
use Rattle.std.specs.FinMap.{keys}
use Rattle.iocm_types.specs.declared.answer.Answer.{Answer}
use Rattle.iocm_types.specs.declared.answer.Answer.TheVariants as answers
use Rattle.iocm_types.specs.declared.sub_id.SubId.{SubId}
use Rattle.iocm_model.specs.Operation.State.{is_among}
use Rattle.iocm_history.specs.Entry.{Call, at, Entry, History}
use Rattle.iocm_history.specs.StageLaws.{is_done}

-- an answer by which other changes count than before: a change was accepted, undone or redone
abbrev pub alters_changes : Answer → Bool
alters_changes (answers.Changed n) = true
alters_changes (answers.Undone n) = true
alters_changes (answers.Redone n) = true
alters_changes _ = false

-- entries among which none has such an answer
abbrev pub leaves_changes : History → Bool
leaves_changes h = not (list_any (λ (e : Entry). alters_changes e.answer) h)

-- a step at one of these subchannels
abbrev pub is_at : List SubId → Call → Bool
is_at xs (at x made) = is_among x xs
is_at xs _ = false

-- the subchannels that an accepted change altered, as its entry tells
abbrev pub altered_by : Entry → List SubId
altered_by e = keys e.effect.lives

-- the steps that were done, and on none of these subchannels
abbrev pub steps_off : List SubId → History → History
steps_off xs h = filter (λ (e : Entry). is_done e.call e.answer && not (is_at xs e.call)) h

-- what is left without a change of the history that had it, where only steps count since: what was
-- before the change, and of what came since the steps that were done elsewhere
abbrev pub run_without : Entry → History → History → History
run_without e since h = steps_off (altered_by e) since ++ h

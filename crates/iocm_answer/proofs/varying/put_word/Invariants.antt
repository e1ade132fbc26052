-- The edits so far, with those of the records that are left, are all.
use Rattle.std.proofs.Common.{◌≡◌, ◌++◌}
use Rattle.std.specs.List.{flat_map}
use Rattle.iocm_difference_writer.specs.Runs.{actions_in}
use Rattle.iocm_answer.specs.Commands.Vary.{record_actions, word_actions}
use Rattle.iocm_answer.proofs.varying.put_word.Given as goal

abbrev pub invariant-loop-entry : goal.invariant-loop-entry
invariant-loop-entry l =
    let task = l.task in
    let c = task.config.now.records in
    actions_in l.edits.items ++ flat_map (record_actions task.to task.filters.now c l.before l.word) l.entry-iterator
    ≡ actions_in l.initial.edits.items ++ word_actions task.to task.filters.now c l.before l.word

-- What the words so far ask for, and what those to come do, is what all ask for.
use Rattle.std.proofs.Common.{◌≡◌, ◌++◌}
use Rattle.iocm_difference_writer.specs.Runs.{actions_in}
use Rattle.iocm_answer.specs.Commands.Vary.{varied_actions}
use Rattle.iocm_answer.proofs.Turns.{from_place}
use Rattle.iocm_answer.proofs.varying.edits_of.Given as goal

abbrev pub invariant-loop-place : goal.invariant-loop-place
invariant-loop-place l = let task = l.task in
    actions_in l.edits.items ++ from_place task.to task.filters.now task.config.now.records l.words l.place
    ≡ varied_actions task.to task.filters.now task.config.now.records

-- The edits for the names so far.
use Rattle.std.proofs.Common.{◌≡◌, ◌++◌, take}
use Rattle.std.specs.List.{flat_map}
use Rattle.iocm_record.specs.Meaning.{path_of}
use Rattle.iocm_difference_writer.specs.Runs.{actions_in}
use Rattle.iocm_answer.specs.Commands.Vary.{pair_actions}
use Rattle.iocm_answer.proofs.varying.put_path.Given as goal

abbrev pub invariant-loop-name : goal.invariant-loop-name
invariant-loop-name l = let task = l.task in
    actions_in l.edits.items ≡ actions_in l.initial.edits.items
    ++ flat_map (pair_actions task.to task.filters.now task.config.now.records (path_of l.path)) (take l.name-index l.name-items)

use Rattle.std.proofs.Common.{◌≡◌, ◌++◌, map, take}
use Rattle.iocm_tree_writer.specs.Written.{action_line, line_to_write}
use Rattle.iocm_difference_writer.specs.Runs.{actions_in}
use Rattle.iocm_difference_writer.proofs.lines.put_each.Given as goal

abbrev pub invariant-loop-edit : goal.invariant-loop-edit
invariant-loop-edit g l =
    l.deck.items ≡ l.fn.deck.items ++ map line_to_write (map action_line (actions_in (take l.edit-index l.run)))

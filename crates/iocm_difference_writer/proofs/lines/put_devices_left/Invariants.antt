use Rattle.std.proofs.Common.{◌≡◌, ◌++◌, map, take}
use Rattle.iocm_tree_writer.specs.Written.{line_to_write}
use Rattle.iocm_difference_writer.specs.Written.{line_with}
use Rattle.iocm_difference_writer.proofs.lines.put_devices_left.Given as goal

abbrev pub invariant-loop-statement : goal.invariant-loop-statement
invariant-loop-statement g l =
    l.deck.items ≡ l.fn.deck.items
    ++ map line_to_write (map (line_with l.verb) (take l.statement-index l.statement-items))

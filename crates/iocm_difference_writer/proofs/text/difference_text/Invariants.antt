use Rattle.std.proofs.Common.{◌≡◌, ◌++◌, length}
use Rattle.std.specs.Option.{option_map}
use Rattle.iocm_difference_writer.specs.Runs.{actions_in}
use Rattle.iocm_difference_writer.specs.Text.{difference_text}
use Rattle.iocm_difference_writer.proofs.text.difference_text.Given as goal

-- what was put, with the text of the edits that are left, is the whole
abbrev pub invariant-loop-rest : goal.invariant-loop-rest
invariant-loop-rest g l =
    l.text.items ++ difference_text (option_map (λ c. c.now.records) l.old) (actions_in l.rest)
    ≡ difference_text (option_map (λ c. c.now.records) l.old) (actions_in l.fn.edits)

abbrev pub decreases-loop-rest : goal.decreases-loop-rest
decreases-loop-rest g l = length l.rest

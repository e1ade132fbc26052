use Rattle.std.proofs.Common.{◌∙◌, Option, Some, ℕ, ap, codes, sym}
use Rattle.clap.specs.Words.{found_of}
use Rattle.clap.proofs.WalkLemmas.{first_value-rows}
use Rattle.iocm_values.specs.Reading.{◌>>=◌}
use Rattle.iocm_command.specs.CommandLine.{heap_by}
use Rattle.iocm_command.proofs.Reading.{size_given, size_missing}
use Rattle.iocm_command.proofs.matches.heap_in.Goals as goal

abbrev given : Option ℕ → Option (Option ℕ)
given size = size >>= λ n. Some (Some n)

pub returns-in_default : goal.returns-in_default
returns-in_default c =
    sym (ap heap_by (c.in_default.ensures ∙ first_value-rows (found_of c.args.found.now) (codes "heap")))

pub returns-in-Some-heap_size : goal.returns-in-Some-heap_size
returns-in-Some-heap_size c =
    sym (ap heap_by (c.in-Some.ensures ∙ first_value-rows (found_of c.args.found.now) (codes "heap")))
    ∙ ap given (size_given c.in-Some.text.now c.in-Some-heap_size.size c.in-Some-heap_size.ensures.some)

pub returns-in-None : goal.returns-in-None
returns-in-None c =
    sym (ap heap_by (c.in-Some.ensures ∙ first_value-rows (found_of c.args.found.now) (codes "heap")))
    ∙ ap given (size_missing c.in-Some.text.now c.in-None.ensures.only)

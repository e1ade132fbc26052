-- The images are marked that the records so far name, and those that are left name the rest.
use Rattle.std.proofs.Common.{is_some}
use Rattle.iocm_types.specs.declared.key.Key.TheVariants.{Online}
use Rattle.iocm_reach.specs.Ranges.{least}
use Rattle.iocm_reach.proofs.Marked.{IsMarking}
use Rattle.iocm_reach.proofs.online.online_images.Given as goal

abbrev pub invariant-loop-key : goal.invariant-loop-key
invariant-loop-key g l =
    IsMarking l.config.records l.range (Online l.range.css l.range.first least) (Online l.range.css) (λ n. is_some)
    l.online l.key-iterator

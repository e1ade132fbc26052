-- The images are marked that the records so far list, and those that are left list the rest.
use Rattle.iocm_types.specs.declared.key.Key.TheVariants.{Path}
use Rattle.iocm_model.specs.Machine.Sight.{record_lists}
use Rattle.iocm_reach.proofs.Marked.{IsMarking}
use Rattle.iocm_reach.proofs.listed.listed_images.Given as goal

abbrev pub invariant-loop-key : goal.invariant-loop-key
invariant-loop-key g l =
    IsMarking l.config.records l.range (Path l.range.css l.range.first) (λ p n. Path l.range.css p) record_lists
    l.listed l.key-iterator

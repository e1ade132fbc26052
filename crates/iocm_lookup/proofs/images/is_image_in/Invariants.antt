-- What the walk has left has the first image of the name in the channel subsystem, if there is one.
use Rattle.iocm_model.specs.Machine.Configuration.{records_of}
use Rattle.iocm_lookup.specs.Images.{is_named_in}
use Rattle.iocm_lookup.proofs.Walks.{IsLeft}
use Rattle.iocm_lookup.proofs.images.is_image_in.Given as goal

abbrev pub invariant-loop-key : goal.invariant-loop-key
invariant-loop-key g l = IsLeft (is_named_in l.css l.name) (records_of l.config.records) l.key-iterator

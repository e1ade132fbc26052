-- What is listed, with the images among the entries that are left, are the images of the choice.
use Rattle.iocm_affected.proofs.ChoiceWalks.{IsLeft}
use Rattle.iocm_affected.proofs.images.images_in.Given as goal

abbrev pub invariant-loop-key : goal.invariant-loop-key
invariant-loop-key g l = IsLeft (g.C.Choice.chosen l.choice) l.config.records l.images.items l.key-iterator

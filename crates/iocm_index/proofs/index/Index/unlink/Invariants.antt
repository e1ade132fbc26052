use Rattle.iocm_index.specs.Namings.{namings_of}
use Rattle.iocm_index.proofs.Loops.{IsUnlinking}
use Rattle.iocm_index.proofs.index.Index.unlink.Given as goal

abbrev pub invariant-loop-place : goal.invariant-loop-place
invariant-loop-place g l = IsUnlinking (namings_of l.entry) l.place l.initial.self-inside.namings l.self-inside.namings

-- What the walk has left has the first of the online records of the path before this one, if there
-- is one.
use Rattle.iocm_model.specs.Machine.Configuration.{records_of}
use Rattle.iocm_lookup.proofs.OnlineBefore.{is_so}
use Rattle.iocm_lookup.proofs.Walks.{IsLeft}
use Rattle.iocm_lookup.proofs.onlines.is_online_before.Given as goal

abbrev pub invariant-loop-key : goal.invariant-loop-key
invariant-loop-key g l = IsLeft (is_so l.fn.css l.fn.path l.fn.name) (records_of l.config.records) l.key-iterator

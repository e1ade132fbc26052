-- What the walk has left has the first of all records that is wanted, and the last one isn't.
use Rattle.std.proofs.Common.{◌≡◌, false}
use Rattle.std.specs.Option.{ForSome}
use Rattle.iocm_model.specs.Machine.Configuration.{records_of}
use Rattle.iocm_lookup.proofs.Walks.{IsLeft}
use Rattle.iocm_lookup.proofs.wanted.first_wanted.Given as goal

abbrev pub invariant-loop-key : goal.invariant-loop-key
invariant-loop-key g l = let wants = g.W.Wanted.wants l.wanted l.config.records in
    IsLeft wants (records_of l.config.records) l.key-iterator × ForSome l.last (λ other. wants other.now ≡ false)

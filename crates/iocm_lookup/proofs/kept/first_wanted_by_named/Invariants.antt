-- What the walk has left has the first of all records that is to be found, and the record that was
-- found last is there.
use Rattle.std.specs.Option.{ForSome}
use Rattle.iocm_model.specs.Machine.Configuration.{records_of}
use Rattle.iocm_lookup.specs.There.{IsThere}
use Rattle.iocm_lookup.proofs.Walks.{IsLeft}
use Rattle.iocm_lookup.proofs.kept.first_wanted_by_named.Given as goal

abbrev pub invariant-loop-key : goal.invariant-loop-key
invariant-loop-key g l =
    IsLeft (g.W.WantedByNamed.wants l.wanted l.config.records) (records_of l.config.records) l.key-iterator
    × ForSome l.last (λ r. IsThere l.config.records r.now)

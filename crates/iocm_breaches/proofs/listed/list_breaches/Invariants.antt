-- The breaches so far, with those of the records that are left, are all.
use Rattle.std.proofs.Common.{◌≡◌, ◌++◌}
use Rattle.iocm_model.specs.Machine.Configuration.{records_of}
use Rattle.iocm_breaches.specs.Breaches.{breaches_of_rule}
use Rattle.iocm_breaches.proofs.listed.list_breaches.Given as goal

abbrev pub invariant-loop-entry : goal.invariant-loop-entry
invariant-loop-entry g l = let breaks = g.W.Wanted.wants l.wanted l.config.records in
    l.breaches.items ++ breaches_of_rule l.rule breaks l.entry-iterator
    ≡ l.fn.breaches.items ++ breaches_of_rule l.rule breaks (records_of l.config.records)

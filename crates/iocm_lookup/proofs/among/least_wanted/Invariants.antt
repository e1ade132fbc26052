-- The least so far, with what the keys that are left give, is the least of all.
use Rattle.std.proofs.Common.{◌≡◌, None, drop}
use Rattle.iocm_model.specs.Machine.Configuration.{lookup_of}
use Rattle.iocm_lookup.specs.Among.{least_of, key_if}
use Rattle.iocm_lookup.proofs.among.least_wanted.Given as goal

abbrev pub invariant-loop-key : goal.invariant-loop-key
invariant-loop-key g l = let gives = key_if (g.W.Wanted.wants l.wanted l.config.records) (lookup_of l.config.records) in
    least_of gives l.least (drop l.key-index l.keys) ≡ least_of gives None l.keys

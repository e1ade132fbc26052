-- The reasons so far, each under its key.
use Rattle.std.proofs.Common.{◌≡◌, take}
use Rattle.iocm_types.specs.declared.key.Key as keys
use Rattle.iocm_offon.specs.UnderKeys as meaning
use Rattle.iocm_offon.proofs.under_keys.by_object.Given as goal

abbrev pub invariant-loop-reason : goal.invariant-loop-reason
invariant-loop-reason l = (k : keys.Key)
    → meaning.under l.table k ≡ meaning.reasons_under k (take l.reason-index l.reasons)

-- The paths so far, with those of the reasons to come, are all.
use Rattle.std.proofs.Common.{◌≡◌, drop, fold}
use Rattle.iocm_offon.specs.Reached.{paths_in, with_path}
use Rattle.iocm_offon.specs.declared.reason.Reason.{Reason}
use Rattle.iocm_offon.proofs.reached.paths_in.Given as goal

abbrev pub invariant-loop-reason : goal.invariant-loop-reason
invariant-loop-reason l =
    fold (λ ps (r : Reason). with_path ps r.spot.path) l.paths.items (drop l.reason-index l.reasons)
    ≡ paths_in l.reasons

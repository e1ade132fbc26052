-- The keys so far, with their records.
use Rattle.std.proofs.Common.{◌≡◌, take, map}
use Rattle.std.specs.FinMap.{get}
use Rattle.iocm_activate.proofs.effect.list_records.Given as goal

abbrev pub invariant-loop-key : goal.invariant-loop-key
invariant-loop-key l = l.listed.items ≡ map (λ key. (key, get l.config.records key)) (take l.key-index l.keys)

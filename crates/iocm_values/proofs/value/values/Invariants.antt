use Rattle.std.proofs.Common.{◌≡◌, map, take}
use Rattle.iocm_values.specs.Value.{seen, value}
use Rattle.iocm_values.proofs.value.values.Given as goal

abbrev pub invariant-loop-piece : goal.invariant-loop-piece
invariant-loop-piece l = map seen l.values.items ≡ map value (map (λ k. k.now) (take l.piece-index l.piece-items))

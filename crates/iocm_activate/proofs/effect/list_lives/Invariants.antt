-- The subchannels so far, with their live records.
use Rattle.std.proofs.Common.{◌≡◌, take, map}
use Rattle.std.specs.FinMap.{get}
use Rattle.iocm_activate.proofs.effect.list_lives.Given as goal

abbrev pub invariant-loop-subchannel : goal.invariant-loop-subchannel
invariant-loop-subchannel l =
    l.listed.items ≡ map (λ x. (x, get l.plant.state.lives x)) (take l.subchannel-index l.subchannels)

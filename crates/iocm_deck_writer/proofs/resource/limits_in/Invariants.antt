use Rattle.std.proofs.Common.{◌≡◌, map, take}
use Rattle.std.specs.List.{flat_map}
use Rattle.iocm_deck_writer.specs.Resource.{limits_of}
use Rattle.iocm_deck_writer.proofs.resource.limits_in.Given as goal

abbrev pub invariant-loop-entry : goal.invariant-loop-entry
invariant-loop-entry g l = l.limits.items ≡ flat_map limits_of (map (λ k. k.now) (take l.entry-index l.records))

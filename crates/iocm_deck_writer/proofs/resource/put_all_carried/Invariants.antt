use Rattle.std.proofs.Common.{◌≡◌, ◌++◌, map, take}
use Rattle.std.specs.List.{flat_map}
use Rattle.iocm_deck_writer.specs.Resource.{resource_carried}
use Rattle.iocm_deck_writer.proofs.resource.put_all_carried.Given as goal

abbrev pub invariant-loop-entry : goal.invariant-loop-entry
invariant-loop-entry g l =
    l.operands.items ≡ l.fn.operands.items
    ++ flat_map resource_carried (map (λ k. k.now) (take l.entry-index l.records))

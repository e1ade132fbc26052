use Rattle.std.proofs.Common.{◌≡◌, ◌≤◌, take}
use Rattle.iocm_operands.specs.Limits.{count_places}
use Rattle.iocm_deck_writer.proofs.resource.count_places.Given as goal

abbrev pub invariant-loop-limit : goal.invariant-loop-limit
invariant-loop-limit l = (l.count ≤ 4) × (l.count ≡ count_places (take l.limit-index l.limits) l.css)

use Rattle.std.proofs.Common.{◌≡◌}
use Rattle.std.specs.List.{flat_map, range_with_len}
use Rattle.iocm_operands.specs.Limits.{places_in}
use Rattle.iocm_deck_writer.proofs.resource.limits_text.Given as goal

abbrev pub invariant-loop-number : goal.invariant-loop-number
invariant-loop-number l = l.items.items ≡ flat_map (places_in l.limits) (range_with_len 0 l.number)

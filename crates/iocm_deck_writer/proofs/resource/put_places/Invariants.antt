use Rattle.std.proofs.Common.{◌≡◌, ◌++◌, map}
use Rattle.std.specs.List.{range_with_len}
use Rattle.iocm_operands.specs.Limits.{place_text}
use Rattle.iocm_deck_writer.proofs.resource.put_places.Given as goal

abbrev pub invariant-loop-set : goal.invariant-loop-set
invariant-loop-set l = l.items.items ≡ l.fn.items.items ++ map (place_text l.limits l.css) (range_with_len 0 l.set)

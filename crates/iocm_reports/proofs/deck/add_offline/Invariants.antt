-- The pairs so far, and those that are left.
use Rattle.std.proofs.Common.{◌≡◌, ◌++◌, filter, not}
use Rattle.std.specs.Map.{keys_of}
use Rattle.std.specs.FinMap.{contains_key}
use Rattle.iocm_reports.proofs.deck.add_offline.Given as goal

abbrev pub invariant-loop-pair : goal.invariant-loop-pair
invariant-loop-pair l = l.untold.items
    ++ filter (λ pair. not (contains_key l.config.records pair)) (keys_of l.pair-iterator)
    ≡ l.initial.untold.items
    ++ filter (λ pair. not (contains_key l.config.records pair)) (keys_of l.initial.pair-iterator)

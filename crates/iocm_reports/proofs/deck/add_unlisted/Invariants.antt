-- The pairs so far, and those that are left.
use Rattle.std.proofs.Common.{◌≡◌, ◌++◌, ◌&&◌, filter, not}
use Rattle.std.specs.Map.{keys_of}
use Rattle.std.specs.FinMap.{contains_key}
use Rattle.iocm_types.specs.Key.{key_cmp}
use Rattle.iocm_table.specs.Slots.{rows}
use Rattle.iocm_config.specs.OnlineLast.{is_online}
use Rattle.iocm_reports.proofs.deck.add_unlisted.Given as goal

abbrev pub invariant-loop-key : goal.invariant-loop-key
invariant-loop-key l = l.untold.items
    ++ filter (λ pair. is_online pair && not (contains_key (rows key_cmp l.listed) pair)) (keys_of l.key-iterator)
    ≡ l.initial.untold.items
    ++ filter (λ pair. is_online pair && not (contains_key (rows key_cmp l.listed) pair))
    (keys_of l.initial.key-iterator)

-- The keys so far, with those that are left, are those before and all of these.
use Rattle.std.proofs.Common.{◌≡◌, ◌||◌, drop}
use Rattle.iocm_filter.specs.Sieves.{has_key}
use Rattle.iocm_table.specs.Slots.{rows}
use Rattle.iocm_types.specs.declared.key.Key.{Key}
use Rattle.iocm_types.specs.Key.{key_cmp}
use Rattle.iocm_plan_filter.specs.Connected.{is_among}
use Rattle.iocm_plan_filter.proofs.keys.put_keys.Given as goal

abbrev pub invariant-loop-key : goal.invariant-loop-key
invariant-loop-key l = (k : Key) → (has_key (rows key_cmp l.keys) k || is_among k (drop l.key-index l.more))
    ≡ (has_key (rows key_cmp l.initial.keys) k || is_among k l.more)

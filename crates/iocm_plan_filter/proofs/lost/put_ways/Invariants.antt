-- The keys so far, with those of the runs that are left, are those before and all.
use Rattle.std.proofs.Common.{◌≡◌, ◌||◌, drop}
use Rattle.std.specs.List.{flat_map}
use Rattle.iocm_filter.specs.Sieves.{has_key}
use Rattle.iocm_table.specs.Slots.{rows}
use Rattle.iocm_types.specs.declared.key.Key.{Key}
use Rattle.iocm_types.specs.Key.{key_cmp}
use Rattle.iocm_plan_filter.specs.Connected.{is_among}
use Rattle.iocm_plan_filter.specs.Lost.{way_lost}
use Rattle.iocm_plan_filter.proofs.lost.put_ways.Given as goal

abbrev pub invariant-loop-run : goal.invariant-loop-run
invariant-loop-run l = let way = way_lost l.old.records l.image in
    (k : Key) → (has_key (rows key_cmp l.keys) k || is_among k (flat_map way (drop l.run-index l.lost)))
    ≡ (has_key (rows key_cmp l.initial.keys) k || is_among k (flat_map way l.lost))

-- The keys so far, with those of the images that are left, are all.
use Rattle.std.proofs.Common.{◌≡◌, ◌||◌, drop}
use Rattle.std.specs.List.{flat_map}
use Rattle.iocm_filter.specs.Sieves.{has_key}
use Rattle.iocm_table.specs.Slots.{rows}
use Rattle.iocm_types.specs.declared.key.Key.{Key}
use Rattle.iocm_types.specs.Key.{key_cmp}
use Rattle.iocm_plan_filter.specs.Connected.{is_among}
use Rattle.iocm_plan_filter.specs.Lost.{ways_lost_to}
use Rattle.iocm_plan_filter.proofs.lost.ways_lost.Given as goal

abbrev pub invariant-loop-image : goal.invariant-loop-image
invariant-loop-image l = let way = ways_lost_to l.filters l.old.records l.new.records l.runs in
    (k : Key) → (has_key (rows key_cmp l.keys) k || is_among k (flat_map way (drop l.image-index l.images)))
    ≡ is_among k (flat_map way l.images)

-- The keys so far, with those of the control units that are left, are those before and all.
use Rattle.std.proofs.Common.{◌≡◌, ◌++◌, drop}
use Rattle.std.specs.List.{flat_map}
use Rattle.iocm_model.specs.Machine.Configuration.{lookup_of}
use Rattle.iocm_plan_filter.specs.Connected.{path_keys}
use Rattle.iocm_plan_filter.proofs.ways.put_paths.Given as goal

abbrev pub invariant-loop-unit : goal.invariant-loop-unit
invariant-loop-unit l = let c = lookup_of l.config.records in
    l.keys.items ++ flat_map (path_keys c) (drop l.unit-index l.units)
    ≡ l.initial.keys.items ++ flat_map (path_keys c) l.units

-- The paths so far, with those of the units that are left, are those at the end.
use Rattle.std.proofs.Common.{◌≡◌, ◌≤◌, ◌++◌, length, take, drop}
use Rattle.iocm_model.specs.Machine.Configuration.{lookup_of}
use Rattle.iocm_model.specs.Machine.PathList.{path_list}
use Rattle.iocm_derive.proofs.paths.next_paths_of_units.Given as goal

abbrev pub invariant-loop-unit : goal.invariant-loop-unit
invariant-loop-unit g l = record {
  same : l.records ≡ l.initial.records;
  short : length l.paths ≤ 8;
  rest : take 8 (l.paths ++ path_list (lookup_of l.initial.records) l.css (drop l.unit-index l.units))
      ≡ take 8 (path_list (lookup_of l.initial.records) l.css l.units);
}

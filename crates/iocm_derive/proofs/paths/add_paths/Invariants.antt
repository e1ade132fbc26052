-- The paths so far, with those that are left, are those at the end.
use Rattle.std.proofs.Common.{◌≡◌, ◌≤◌, ◌++◌, length, take, drop}
use Rattle.iocm_model.specs.Machine.PathList.{paths_in}
use Rattle.iocm_derive.proofs.paths.add_paths.Given as goal

abbrev pub invariant-loop-path : goal.invariant-loop-path
invariant-loop-path l = record {
  short : length l.paths ≤ 8;
  rest : take 8 (l.paths ++ paths_in l.css (drop l.path-index l.more))
      ≡ take 8 (l.initial.paths ++ paths_in l.css l.more);
}

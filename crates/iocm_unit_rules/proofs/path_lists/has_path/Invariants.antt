-- The path is none of those so far.
use Rattle.std.proofs.Common.{◌≡◌, drop}
use Rattle.std.specs.List.{list_any}
use Rattle.iocm_unit_rules.proofs.PathNumbers.{is_path}
use Rattle.iocm_unit_rules.proofs.path_lists.has_path.Given as goal

abbrev pub invariant-loop-path : goal.invariant-loop-path
invariant-loop-path l = list_any (is_path l.css l.number) (drop l.path-index l.paths)
    ≡ list_any (is_path l.css l.number) l.paths

-- The path is none of those so far.
use Rattle.std.proofs.Common.{◌≡◌, nat_eq, drop}
use Rattle.std.specs.List.{list_any}
use Rattle.iocm_device_rules.proofs.joined.has_number.Given as goal

abbrev pub invariant-loop-path : goal.invariant-loop-path
invariant-loop-path l = list_any (nat_eq l.number) (drop l.path-index l.paths) ≡ list_any (nat_eq l.number) l.paths

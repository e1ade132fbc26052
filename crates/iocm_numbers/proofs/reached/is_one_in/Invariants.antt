-- None of the paths so far is in the channel subsystem.
use Rattle.std.proofs.Common.{◌≡◌, nat_eq, drop}
use Rattle.std.specs.List.{list_any}
use Rattle.iocm_numbers.proofs.reached.is_one_in.Given as goal

abbrev pub invariant-loop-path : goal.invariant-loop-path
invariant-loop-path l = list_any (λ p. nat_eq p.css l.css) (drop l.path-index l.paths)
    ≡ list_any (λ p. nat_eq p.css l.css) l.paths

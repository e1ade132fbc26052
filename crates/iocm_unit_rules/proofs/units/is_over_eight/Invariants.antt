-- None of the channel subsystems so far has over eight.
use Rattle.std.proofs.Common.{◌≡◌, nat_lt, length, drop}
use Rattle.std.specs.List.{list_any}
use Rattle.iocm_model.specs.Machine.Numbering.{subsystems}
use Rattle.iocm_model.specs.Machine.PathList.{paths_in}
use Rattle.iocm_unit_rules.proofs.units.is_over_eight.Given as goal

abbrev pub invariant-loop-css : goal.invariant-loop-css
invariant-loop-css l = list_any (λ css. nat_lt 8 (length (paths_in css l.paths))) (drop l.css-index l.css-items)
    ≡ list_any (λ css. nat_lt 8 (length (paths_in css l.paths))) subsystems

-- The channel subsystems so far have no links, or as many as paths.
use Rattle.std.proofs.Common.{◌≡◌, ◌==◌, ◌&&◌, not, length, drop}
use Rattle.std.specs.List.{list_any}
use Rattle.iocm_model.specs.Machine.Numbering.{subsystems}
use Rattle.iocm_model.specs.Machine.PathList.{paths_in}
use Rattle.iocm_model.specs.Rules.EachRule.{links_in}
use Rattle.iocm_unit_rules.proofs.units.has_wrong_links.Given as goal

abbrev pub invariant-loop-css : goal.invariant-loop-css
invariant-loop-css l =
    list_any (λ css. not (length (links_in css l.links) == 0)
    && not (length (links_in css l.links) == length (paths_in css l.paths))) (drop l.css-index l.css-items)
    ≡ list_any (λ css. not (length (links_in css l.links) == 0)
    && not (length (links_in css l.links) == length (paths_in css l.paths))) subsystems

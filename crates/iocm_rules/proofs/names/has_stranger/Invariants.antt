-- None of the names so far is that of no image.
use Rattle.std.proofs.Common.{◌≡◌, not, drop}
use Rattle.std.specs.List.{list_any}
use Rattle.iocm_model.specs.Rules.EachRule.{is_image_in}
use Rattle.iocm_rules.proofs.names.has_stranger.Given as goal

abbrev pub invariant-loop-name : goal.invariant-loop-name
invariant-loop-name g l =
    list_any (λ name. not (is_image_in l.images.records l.images.css name)) (drop l.name-index l.names)
    ≡ list_any (λ name. not (is_image_in l.images.records l.images.css name)) l.names

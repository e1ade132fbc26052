-- None of the names so far is that of no image.
use Rattle.std.proofs.Common.{◌≡◌, not, drop}
use Rattle.std.specs.List.{list_any}
use Rattle.iocm_model.specs.Rules.EachRule.{is_image}
use Rattle.iocm_device_rules.proofs.devices.has_stranger.Given as goal

abbrev pub invariant-loop-name : goal.invariant-loop-name
invariant-loop-name g l =
    list_any (λ name. not (is_image l.config.records name)) (drop l.name-index l.names)
    ≡ list_any (λ name. not (is_image l.config.records name)) l.names

-- Each of the units so far is there.
use Rattle.std.proofs.Common.{◌≡◌, drop}
use Rattle.std.specs.Prelude.{is_none}
use Rattle.std.specs.List.{list_any}
use Rattle.iocm_types.specs.declared.key.Key.TheVariants.{Unit}
use Rattle.iocm_model.specs.Machine.Configuration.{lookup_of}
use Rattle.iocm_device_rules.proofs.devices.is_unit_missing.Given as goal

abbrev pub invariant-loop-unit : goal.invariant-loop-unit
invariant-loop-unit g l =
    list_any (λ number. is_none (lookup_of l.config.records (Unit number))) (drop l.unit-index l.units)
    ≡ list_any (λ number. is_none (lookup_of l.config.records (Unit number))) l.units

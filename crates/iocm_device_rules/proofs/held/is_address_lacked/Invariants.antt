-- None of the units so far lacks it, and the record that was found last is there.
use Rattle.std.proofs.Common.{◌≡◌, drop}
use Rattle.std.specs.List.{list_any}
use Rattle.iocm_types.specs.declared.key.Key.TheVariants.{Unit}
use Rattle.iocm_model.specs.Machine.Configuration.{lookup_of}
use Rattle.iocm_model.specs.Rules.EachRule.{lacks_address}
use Rattle.std.specs.Option.{ForSome}
use Rattle.iocm_lookup.specs.There.{IsThere}
use Rattle.iocm_device_rules.proofs.held.is_address_lacked.Given as goal

abbrev pub invariant-loop-unit : goal.invariant-loop-unit
invariant-loop-unit g l = record {
  there : ForSome l.last (λ r. IsThere l.config.records r.now);
  rest : list_any (λ number. lacks_address l.address (lookup_of l.config.records (Unit number)))
      (drop l.unit-index l.units)
      ≡ list_any (λ number. lacks_address l.address (lookup_of l.config.records (Unit number))) l.units;
}

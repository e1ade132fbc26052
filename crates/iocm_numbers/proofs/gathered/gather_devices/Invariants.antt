-- The devices so far, with those of the records that are left, are all; and what is known of the
-- last units is so.
use Rattle.std.proofs.Common.{◌≡◌, ◌++◌, map}
use Rattle.iocm_model.specs.Machine.Configuration.{lookup_of, devices_of}
use Rattle.iocm_numbers.specs.Opening.{reach_by, reach_of}
use Rattle.iocm_numbers.proofs.Gathering.{gathered_from}
use Rattle.iocm_numbers.proofs.gathered.gather_devices.Given as goal

abbrev pub invariant-loop-entry : goal.invariant-loop-entry
invariant-loop-entry g l = record {
  known : l.last.reached ≡ reach_by (lookup_of l.config.records) l.last.units.now;
  rest : l.devices.items ++ gathered_from (lookup_of l.config.records) l.entry-iterator
      ≡ map (reach_of (lookup_of l.config.records)) (devices_of l.config.records);
}

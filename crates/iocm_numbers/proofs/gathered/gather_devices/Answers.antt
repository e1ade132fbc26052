-- Before the first record all are left.
use Rattle.std.proofs.Common.{refl, ap, ◌∙◌}
use Rattle.iocm_model.specs.Machine.Configuration.{lookup_of}
use Rattle.iocm_numbers.proofs.Gathering.{gathered_from}
use Rattle.iocm_numbers.proofs.gathered.gather_devices.Goals as goal

pub loop-entry-init : goal.loop-entry-init
loop-entry-init g c = record {
  known = refl;
  rest = rw c.new-devices.ensures.items
      (ap (gathered_from (lookup_of c.args.config.now.records))
      (c.into_iter-entry-iterator.ensures.into_iter_gives ∙ c.walk-entry-items.ensures.entries));
}

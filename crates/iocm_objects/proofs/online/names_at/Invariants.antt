-- The names so far, with those of the rows that are left, are all; the rows are in order.
use Rattle.std.proofs.Common.{◌≡◌, ◌++◌}
use Rattle.std.specs.List.{filter_map}
use Rattle.iocm_types.specs.declared.key.Key.TheVariants as key
use Rattle.iocm_lookup.specs.Entries.{AreInOrder, in_entries}
use Rattle.iocm_plan.specs.Objects.{name_online, online_at}
use Rattle.iocm_objects.proofs.online.names_at.Given as goal

abbrev pub invariant-loop-key : goal.invariant-loop-key
invariant-loop-key l = record {
  order : AreInOrder l.key-iterator;
  left : l.names.items ++ filter_map (name_online l.css l.path) (in_entries l.key-iterator)
      ≡ online_at l.config.records (key.Path l.css l.path);
}

use Rattle.iocm_derive.proofs.image_sight.ImageSight.new.Goals as goal

pub invariant_of-result : goal.invariant_of-result
invariant_of-result g c = record {
  reached_paths = c.path_tables.ensures.reached;
  online_paths = c.path_tables.ensures.online;
  same_devices = c.new.ensures;
  same_units = c.new-2.ensures;
  seen = rw c.new-records.ensures at c.units_view.ensures.seen;
}

-- What was seen so far, with what the images that are left see, is all; the images stay as they are.
use Rattle.std.proofs.Common.{◌≡◌, ◌++◌, drop}
use Rattle.std.specs.List.{filter_map}
use Rattle.iocm_record.specs.Meaning.{device_of}
use Rattle.iocm_sight.specs.Seen.{seen_from}
use Rattle.iocm_sight.proofs.sight.images_by.Given as goal

abbrev pub invariant-loop-place : goal.invariant-loop-place
invariant-loop-place l = record {
  left : l.seen.items ++ filter_map (seen_from l.filters (device_of l.device)) (drop l.place l.initial.sights)
      ≡ filter_map (seen_from l.filters (device_of l.device)) l.initial.sights;
  same : l.sights ≡ l.initial.sights;
}

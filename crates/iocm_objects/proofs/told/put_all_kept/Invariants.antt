-- The fields so far.
use Rattle.std.proofs.Common.{◌≡◌, ◌++◌, take}
use Rattle.std.specs.List.{flat_map}
use Rattle.iocm_objects.specs.Told.{told_kept}
use Rattle.iocm_objects.proofs.told.put_all_kept.Given as goal

abbrev pub invariant-loop-field : goal.invariant-loop-field
invariant-loop-field l = l.told.items ≡ l.fn.told.items ++ flat_map (told_kept l.after) (take l.field-index l.before)

-- The fields so far have another name.
use Rattle.std.proofs.Common.{◌≡◌, drop}
use Rattle.iocm_objects.specs.Told.{value_under}
use Rattle.iocm_objects.proofs.told.value_under.Given as goal

abbrev pub invariant-loop-field : goal.invariant-loop-field
invariant-loop-field l = value_under l.name (drop l.field-index l.fields) ≡ value_under l.name l.fields

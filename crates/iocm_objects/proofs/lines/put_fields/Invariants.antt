-- The fields so far.
use Rattle.std.proofs.Common.{◌≡◌, ◌++◌, take}
use Rattle.std.specs.List.{flat_map}
use Rattle.iocm_objects.specs.Lines.{told_item}
use Rattle.iocm_objects.proofs.lines.put_fields.Given as goal

abbrev pub invariant-loop-field : goal.invariant-loop-field
invariant-loop-field l = l.line.items ≡ l.fn.line.items ++ flat_map (told_item l.count) (take l.field-index l.told)

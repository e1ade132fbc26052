-- The fields so far, with those to come, are all.
use Rattle.std.proofs.Common.{◌≡◌, ◌++◌, drop, filter}
use Rattle.std.specs.List.{flat_map}
use Rattle.iocm_objects.specs.Lines.{told_item}
use Rattle.iocm_offon_text.specs.Fields.{leads}
use Rattle.iocm_offon_text.proofs.fields.put_leading.Given as goal

abbrev pub invariant-loop-field : goal.invariant-loop-field
invariant-loop-field l =
    l.text.items ++ flat_map (told_item l.count) (filter (leads l.kind l.is_over) (drop l.field-index l.told))
    ≡ l.initial.text.items ++ flat_map (told_item l.count) (filter (leads l.kind l.is_over) l.told)

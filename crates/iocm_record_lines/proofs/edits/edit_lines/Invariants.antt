-- The lines of the edits so far.
use Rattle.std.proofs.Common.{◌≡◌, take}
use Rattle.std.specs.List.{flat_map}
use Rattle.iocm_tree.specs.Carried.{Carried}
use Rattle.iocm_record_lines.specs.Edits.{edit_line}
use Rattle.iocm_record_lines.proofs.edits.edit_lines.Given as goal

abbrev pub invariant-loop-edit : goal.invariant-loop-edit
invariant-loop-edit g l =
    l.text.items ≡ flat_map (λ (e : Carried). edit_line l.config.records e.edit.action) (take l.edit-index l.edits)

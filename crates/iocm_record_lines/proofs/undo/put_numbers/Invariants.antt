-- What is put, with the items that are left, is the list.
use Rattle.std.proofs.Common.{◌≡◌, ◌++◌, drop, false}
use Rattle.serde_json.specs.Written.{items_text}
use Rattle.iocm_record_lines.specs.Undo.{place_value}
use Rattle.iocm_record_lines.specs.Lists.{items_of}
use Rattle.iocm_record_lines.proofs.undo.put_numbers.Given as goal

abbrev pub invariant-loop-row : goal.invariant-loop-row
invariant-loop-row l = l.text.items ++ items_text l.later (items_of place_value (drop l.row-index l.places))
    ≡ l.initial.text.items ++ items_text false (items_of place_value l.places)

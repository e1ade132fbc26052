-- What is put, with the items that are left, is the list.
use Rattle.std.proofs.Common.{◌≡◌, ◌++◌, drop, false}
use Rattle.serde_json.specs.Written.{items_text}
use Rattle.iocm_record_lines.specs.Lists.{items_of}
use Rattle.iocm_list_lines.specs.Images.{set_value}
use Rattle.iocm_list_lines.proofs.images.put_sets.Given as goal

abbrev pub invariant-loop-numbers : goal.invariant-loop-numbers
invariant-loop-numbers l = l.text.items ++ items_text l.later (items_of set_value (drop l.numbers-index l.sets))
    ≡ l.initial.text.items ++ items_text false (items_of set_value l.sets)

-- What is put, with the items that are left, is the list.
use Rattle.std.proofs.Common.{◌≡◌, ◌++◌, drop, false}
use Rattle.serde_json.specs.Written.{items_text}
use Rattle.serde_json.specs.Data.{string}
use Rattle.iocm_record_lines.specs.Lists.{items_of}
use Rattle.iocm_record_lines.proofs.names.put_names.Given as goal

abbrev pub invariant-loop-name : goal.invariant-loop-name
invariant-loop-name l = l.text.items ++ items_text l.later (items_of string (drop l.name-index l.names))
    ≡ l.initial.text.items ++ items_text false (items_of string l.names)

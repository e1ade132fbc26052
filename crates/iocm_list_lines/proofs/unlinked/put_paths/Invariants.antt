-- What is put, with the items that are left, is the list.
use Rattle.std.proofs.Common.{◌≡◌, ◌++◌, drop, false}
use Rattle.serde_json.specs.Written.{items_text}
use Rattle.iocm_record_lines.specs.Lists.{items_of}
use Rattle.iocm_list_lines.specs.Members.{path_value}
use Rattle.iocm_list_lines.proofs.unlinked.put_paths.Given as goal

abbrev pub invariant-loop-path : goal.invariant-loop-path
invariant-loop-path l = l.text.items ++ items_text l.later (items_of path_value (drop l.path-index l.paths))
    ≡ l.initial.text.items ++ items_text false (items_of path_value l.paths)

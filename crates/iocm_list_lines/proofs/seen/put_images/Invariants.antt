-- What is put, with the items that are left, is the list.
use Rattle.std.proofs.Common.{◌≡◌, ◌++◌, drop, false}
use Rattle.serde_json.specs.Written.{items_text}
use Rattle.iocm_record_lines.specs.Lists.{items_of}
use Rattle.iocm_list_lines.specs.Devices.{seen_value}
use Rattle.iocm_list_lines.proofs.seen.put_images.Given as goal

abbrev pub invariant-loop-seen : goal.invariant-loop-seen
invariant-loop-seen l = l.text.items ++ items_text l.later (items_of seen_value (drop l.seen-index l.images))
    ≡ l.initial.text.items ++ items_text false (items_of seen_value l.images)

use Rattle.std.proofs.Common.{◌≡◌, ◌++◌, drop}
use Rattle.iocm_difference_writer.specs.Comments.{starred, starred_behind}
use Rattle.iocm_difference_writer.proofs.comments.put_starred.Given as goal

abbrev pub invariant-loop-byte : goal.invariant-loop-byte
invariant-loop-byte l = l.text.items ++ starred_behind l.before (drop l.byte-index l.bytes) ≡ l.fn.text.items
    ++ starred l.bytes

use Rattle.std.proofs.Common.{◌≡◌, take}
use Rattle.iocm_columns.specs.Written.{deck_bytes}
use Rattle.iocm_columns.proofs.written.deck_bytes.Given as goal

abbrev pub invariant-loop-joined : goal.invariant-loop-joined
invariant-loop-joined l = l.bytes.items ≡ deck_bytes (take l.joined-index l.deck)

-- The bytes so far are the same.
use Rattle.std.proofs.Common.{◌≡◌, drop}
use Rattle.std.specs.Str.{bytes_eq}
use Rattle.iocm_statements.proofs.word.is_same_word.Given as goal

abbrev pub invariant-loop-at : goal.invariant-loop-at
invariant-loop-at l = bytes_eq (drop l.at l.one) (drop l.at l.other) ≡ bytes_eq l.one l.other

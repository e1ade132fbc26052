-- None of the statements so far brings the key.
use Rattle.std.proofs.Common.{◌≡◌, drop}
use Rattle.iocm_origin.specs.Keys.{line_among, line_of_key}
use Rattle.iocm_origin.proofs.keys.line_of_key.Given as goal

abbrev pub invariant-loop-statement : goal.invariant-loop-statement
invariant-loop-statement l =
    line_among l.images.items l.fn.key (drop l.statement-index l.statements) ≡ line_of_key l.statements l.fn.key

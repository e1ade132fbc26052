-- The map has the operands so far, and no two of them have the same key.
use Rattle.std.proofs.Common.{◌≡◌, false}
use Rattle.iocm_statements.specs.Operands.{has_twins}
use Rattle.iocm_statements.proofs.keying.keyed_by_map.Given as goal

abbrev pub invariant-loop-key : goal.invariant-loop-key
invariant-loop-key l = record {
  kept : l.map.entries ≡ l.yielded;
  distinct : has_twins l.yielded ≡ false;
}

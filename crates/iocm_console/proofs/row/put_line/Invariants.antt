-- The line has the numbers and the paths so far.
use Rattle.std.proofs.Common.{◌≡◌, ◌+◌, ◌*◌, ◌++◌, take}
use Rattle.arrayvec.specs.ArrayVec.{array_vec_len}
use Rattle.iocm_model.specs.Machine.Table.{chpids}
use Rattle.iocm_console.proofs.row.put_line.Given as goal

abbrev pub invariant-loop-path : goal.invariant-loop-path
invariant-loop-path l = record {
  text : l.line.items ≡ l.initial.line.items ++ chpids (take l.path-index l.path-items);
  long : array_vec_len l.line ≡ 28 + 3 * l.path-index;
}

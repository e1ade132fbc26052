-- What the line has, and what is to come, are the whole list.
use Rattle.std.proofs.Common.{◌≡◌, ◌≤◌, ◌+◌, ◌*◌, ◌++◌, drop, map, false}
use Rattle.arrayvec.specs.ArrayVec.{array_vec_len}
use Rattle.iocm_types.specs.Print.{hex2}
use Rattle.serde_json.specs.Written.{items_text}
use Rattle.iocm_lines.specs.Members.{texts}
use Rattle.iocm_lines.specs.Subchannel.{paths_from, paths_in}
use Rattle.iocm_lines.proofs.json_line.put_paths.Given as goal

abbrev pub invariant-loop-path : goal.invariant-loop-path
invariant-loop-path l = record {
  text : l.line.items ++ items_text l.later (texts (map hex2 (paths_from l.bit l.mask (drop l.path-index l.paths))))
      ≡ l.initial.line.items ++ items_text false (texts (map hex2 (paths_in l.mask l.paths)));
  long : array_vec_len l.line ≤ array_vec_len l.initial.line + 5 * l.path-index;
}

use Rattle.std.proofs.Common.{◌≡◌, drop, map}
use Rattle.std.specs.Map.{lookup}
use Rattle.std.specs.Str.{bytes_eq}
use Rattle.iocm_script.specs.Verbs.{seen_row}
use Rattle.iocm_script.proofs.verb.verb_in.Given as goal

abbrev pub invariant-loop-row : goal.invariant-loop-row
invariant-loop-row l = lookup (bytes_eq l.word) (map seen_row (drop l.row-index l.rows))
    ≡ lookup (bytes_eq l.word) (map seen_row l.rows)

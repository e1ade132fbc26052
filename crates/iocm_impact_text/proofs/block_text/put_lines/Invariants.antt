-- The lines so far, and those that are left.
use Rattle.std.proofs.Common.{◌≡◌, ◌++◌, drop}
use Rattle.std.specs.List.{flat_map}
use Rattle.iocm_impact_text.specs.Texts.{row_line}
use Rattle.iocm_impact_text.proofs.block_text.put_lines.Given as goal

abbrev pub invariant-loop-row : goal.invariant-loop-row
invariant-loop-row l = l.text.items ++ flat_map row_line (drop l.row-index l.rows)
    ≡ l.initial.text.items ++ flat_map row_line l.rows

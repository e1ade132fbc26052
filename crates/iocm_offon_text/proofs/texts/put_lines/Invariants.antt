-- The lines so far, and those that are left.
use Rattle.std.proofs.Common.{◌≡◌, ◌++◌, drop}
use Rattle.std.specs.List.{flat_map}
use Rattle.iocm_offon_text.specs.Texts.{line_text}
use Rattle.iocm_offon_text.proofs.texts.put_lines.Given as goal

abbrev pub invariant-loop-line : goal.invariant-loop-line
invariant-loop-line l =
    l.text.items ++ flat_map (line_text l.images l.runs) (drop l.line-index l.lines)
    ≡ l.initial.text.items ++ flat_map (line_text l.images l.runs) l.lines

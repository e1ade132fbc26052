-- The lines so far, with those of the records that are left, are all.
use Rattle.std.proofs.Common.{◌≡◌, ◌++◌}
use Rattle.std.specs.FinMap.{entries}
use Rattle.std.specs.List.{flat_map}
use Rattle.iocm_lines.specs.Lines.{line}
use Rattle.iocm_record_lines.specs.Records.{record_line_value}
use Rattle.iocm_record_lines.proofs.lines.record_lines.Given as goal

abbrev pub invariant-loop-key : goal.invariant-loop-key
invariant-loop-key g l = l.text.items ++ flat_map (λ e. line (record_line_value e)) l.key-iterator
    ≡ flat_map (λ e. line (record_line_value e)) (entries l.config.records)

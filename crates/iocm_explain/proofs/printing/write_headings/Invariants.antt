-- The headings of the refusals so far are written.
use Rattle.std.proofs.Common.{take}
use Rattle.std.specs.List.{flat_map}
use Rattle.iocm_console.specs.Output.{Wrote}
use Rattle.iocm_explain.specs.Printed.{heading_line}
use Rattle.iocm_explain.proofs.printing.write_headings.Given as goal

abbrev pub invariant-loop-rule : goal.invariant-loop-rule
invariant-loop-rule g l =
    Wrote g.W.Write.contents l.initial.output l.output (flat_map heading_line (take l.rule-index l.rules))

-- The entries of the refusals so far are written.
use Rattle.std.proofs.Common.{take}
use Rattle.std.specs.List.{flat_map}
use Rattle.iocm_console.specs.Output.{Wrote}
use Rattle.iocm_explain.specs.Explain.{told_below}
use Rattle.iocm_explain.proofs.printing.write_below.Given as goal

abbrev pub invariant-loop-rule : goal.invariant-loop-rule
invariant-loop-rule g l =
    Wrote g.W.Write.contents l.initial.output l.output (flat_map told_below (take l.rule-index l.rules))

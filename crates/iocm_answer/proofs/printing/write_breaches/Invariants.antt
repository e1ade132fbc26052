-- The lines so far are written.
use Rattle.std.proofs.Common.{take}
use Rattle.iocm_console.specs.Output.{Wrote}
use Rattle.iocm_answer.specs.Answer.{breach_lines}
use Rattle.iocm_answer.proofs.printing.write_breaches.Given as goal

abbrev pub invariant-loop-breach : goal.invariant-loop-breach
invariant-loop-breach g l =
    Wrote g.W.Write.contents l.initial.output l.output (breach_lines l.manner (take l.breach-index l.breaches))

-- The lines so far are written.
use Rattle.std.proofs.Common.{take}
use Rattle.iocm_console.specs.Output.{Wrote}
use Rattle.iocm_answer.specs.Answer.{fault_lines}
use Rattle.iocm_answer.proofs.printing.write_faults.Given as goal

abbrev pub invariant-loop-one : goal.invariant-loop-one
invariant-loop-one g l =
    Wrote g.W.Write.contents l.initial.output l.output (fault_lines l.manner (take l.one-index l.faults))

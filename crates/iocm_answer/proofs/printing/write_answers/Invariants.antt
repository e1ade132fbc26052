-- The lines so far are written.
use Rattle.std.proofs.Common.{take}
use Rattle.iocm_console.specs.Output.{Wrote}
use Rattle.iocm_answer.specs.Answer.{answer_lines}
use Rattle.iocm_answer.proofs.printing.write_answers.Given as goal

abbrev pub invariant-loop-answered : goal.invariant-loop-answered
invariant-loop-answered g l =
    Wrote g.W.Write.contents l.initial.output l.output (answer_lines l.manner (take l.answered-index l.answers))

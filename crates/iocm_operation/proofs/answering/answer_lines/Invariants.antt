use Rattle.std.proofs.Common.{◌≡◌, ◌++◌, drop}
use Rattle.iocm_operation.specs.Answering.{answers_at}
use Rattle.iocm_operation.proofs.answering.answer_lines.Given as goal

-- the answers so far, and those of the places that are left, are all answers
abbrev pub invariant-loop-place : goal.invariant-loop-place
invariant-loop-place l =
    answers_at l.entries l.places ≡ l.answers.items ++ answers_at l.entries (drop l.place-index l.places)

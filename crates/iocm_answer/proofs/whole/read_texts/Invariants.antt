-- The devices so far were read to their ends, and those after them are as they were.
use Rattle.std.proofs.Common.{map}
use Rattle.iocm_answer.proofs.Reading.{AreReadTo}
use Rattle.iocm_answer.proofs.whole.read_texts.Given as goal

abbrev pub invariant-loop-place : goal.invariant-loop-place
invariant-loop-place g l =
    AreReadTo g.R.Read.remaining l.limit l.place l.initial.devices l.devices (map (λ t. t.items) l.texts.items)

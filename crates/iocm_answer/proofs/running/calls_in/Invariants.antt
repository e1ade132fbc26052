-- The calls of the rounds so far are counted, as far as a number goes.
use Rattle.std.proofs.Common.{◌≡◌, ◌-◌, ◌^◌, min, take}
use Rattle.iocm_answer.specs.Commands.Run.{calls_in}
use Rattle.iocm_answer.proofs.running.calls_in.Given as goal

abbrev pub invariant-loop-round : goal.invariant-loop-round
invariant-loop-round l = l.count ≡ min (calls_in (take l.round-index l.script)) (2 ^ 64 - 1)

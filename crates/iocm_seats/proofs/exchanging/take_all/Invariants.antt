-- The rows so far have their live records, the others are as they were; what is left to take out
-- gives what all gives.
use Rattle.iocm_seats.proofs.Taking.{IsTaking}
use Rattle.iocm_seats.proofs.exchanging.take_all.Given as goal

abbrev pub invariant-loop-place : goal.invariant-loop-place
invariant-loop-place g l = IsTaking l.initial.seats l.seats l.initial.out l.out l.place

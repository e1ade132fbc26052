use Rattle.std.proofs.Common.{◌≡◌}
use Rattle.iocm_rounds.specs.Working.{IsWorked}
use Rattle.iocm_rounds.proofs.worker.run_worker.Given as goal

-- what was made of the messages that were taken so far
abbrev pub invariant-loop : goal.invariant-loop
invariant-loop g l =
    (l.work.worker.channel ≡ l.fn.worker.channel) × (l.work.caller.tag ≡ l.fn.me.tag)
    × IsWorked l.work.worker.taken l.fn.me l.work.caller l.work.first.items l.work.second.items l.work.stopped

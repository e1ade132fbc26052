use Rattle.std.proofs.Common.{◌≡◌, map}
use Rattle.std.specs.Prelude.{IfOk}
use Rattle.iocm_queue.specs.Taken.{message_of}
use Rattle.iocm_queue.proofs.taking.take_all.Given as goal

-- the items are all that was taken
abbrev pub invariant-loop : goal.invariant-loop
invariant-loop g l = (l.worker.channel ≡ l.initial.worker.channel)
    × IfOk l.items (λ items. map message_of items.items ≡ l.worker.taken)

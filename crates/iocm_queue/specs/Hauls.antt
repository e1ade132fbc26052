-- What a worker took in all.
use Rattle.std.specs.Prelude.{◌≡◌, IfOk, map}
use Rattle.iocm_queue.specs.declared.taking.Haul.{Haul}
use Rattle.iocm_queue.specs.Ends.{Channel}
use Rattle.iocm_queue.specs.Taken.{AreOver, message_of}

-- the worker of a channel took items until both end marks, and these are they, where there was
-- memory to keep them
pub record IsHaul {T : Type 0} (channel : Channel T) (h : Haul T) : Type 0 where
  pub same : h.worker.channel ≡ channel
  pub over : AreOver h.worker.taken
  pub items_are : IfOk h.items (λ items. map message_of items.items ≡ h.worker.taken)

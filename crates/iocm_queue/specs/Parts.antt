-- What each step makes of the parts of its passes.
use Rattle.std.specs.Prelude.{suc, true, false, [], ◌∷◌, ◌++◌}
use Rattle.iocm_queue.specs.declared.message.Message.{Message}
use Rattle.iocm_queue.specs.declared.part.Part.{Part}

module _ {T : Type 0} where
  -- at first there is the worker's pass alone
  abbrev pub first_part : Part T
  first_part = record { sends = false; by = 0; sent = []; takes = true; taken = []; operators = 0 }

  -- a message was sent
  abbrev pub sends_more : Part T → Message T → Part T
  sends_more v m = record v { sent = v.sent ++ m ∷ [] }

  -- a message was taken
  abbrev pub takes_more : Part T → Message T → Part T
  takes_more v m = record v { taken = v.taken ++ m ∷ [] }

  -- the worker has one more operator, and its pass
  abbrev pub hires : Part T → Part T
  hires v = record v { operators = suc v.operators }

  abbrev pub hired : Part T → Part T
  hired v = record { sends = true; by = v.operators; sent = []; takes = false; taken = []; operators = 0 }

  -- the worker knows what an operator sent
  abbrev pub compares : Part T → Part T → Part T
  compares v w = record v { sends = w.sends; by = w.by; sent = w.sent }

  -- a pass with which nothing is sent or taken any more
  abbrev pub spent : Part T
  spent = record { sends = false; by = 0; sent = []; takes = false; taken = []; operators = 0 }

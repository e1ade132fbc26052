-- Operators and the worker, as values.
use Rattle.std.specs.Prelude.{ℕ, List, [], ◌∷◌, ◌++◌, map}
use Rattle.crossbeam_channel.specs.Fifo.{Held}
use Rattle.crossbeam_channel.specs.declared.flavors.array.Key.{Key}
use Rattle.atomic_table.specs.declared.badge.Badge.{Badge}
use Rattle.atomic_table.specs.Seated.{TableId}
use Rattle.iocm_queue.specs.declared.message.Message.{Message}
use Rattle.iocm_queue.specs.declared.message.Message.TheVariants.{Line}
use Rattle.iocm_queue.specs.Taken.{IsWaiting}

-- which channel: that with this table of turns, and with these places
pub record Channel (T : Type 0) : Type 0 where
  pub turns : TableId
  pub places : Badge (Key (Message T))

-- an operator, and what is left of one that has sent its end mark: its channel, its number, and the
-- lines that it has sent, in order
pub record Sending (T : Type 0) : Type 0 where
  pub channel : Channel T
  pub number : ℕ
  pub sent : List T

-- the worker: its channel, and the messages that it has taken, in order
pub record Taking (T : Type 0) : Type 0 where
  pub channel : Channel T
  pub taken : List (Message T)

module _ {T : Type 0} where
  -- an operator has sent one more line
  abbrev pub sends_line : Sending T → T → Sending T
  sends_line o x = record o { sent = o.sent ++ x ∷ [] }

  -- an operator has sent these lines more
  abbrev pub sends_lines : Sending T → List T → Sending T
  sends_lines o xs = record o { sent = o.sent ++ xs }

  -- the worker has taken one more message
  abbrev pub takes_message : Taking T → Message T → Taking T
  takes_message w m = record w { taken = w.taken ++ m ∷ [] }

  -- lines of an operator, as messages
  abbrev pub as_lines : ℕ → List T → List (Message T)
  as_lines n xs = map (λ x. Line n x) xs

  -- at one moment 16 messages were in the channel, and the last that the operator sent were among
  -- them
  abbrev pub WasFull : Sending T → Type 0
  WasFull o = Held 16 (IsWaiting o.number (as_lines o.number o.sent))

-- What always holds of the fields of an operator, of what is left of one, and of the worker.
use Rattle.std.specs.Prelude.{◌≡◌, ℕ, true, List, [], ◌∷◌, ◌++◌, length}
use Rattle.crossbeam_channel.specs.declared.flavors.array.Doing.{Doing}
use Rattle.crossbeam_channel.specs.declared.flavors.array.Key.{Key}
use Rattle.crossbeam_channel.specs.declared.flavors.array.Rows.{Rows}
use Rattle.crossbeam_channel.specs.declared.flavors.array.ruled.Receiving as receiver
use Rattle.crossbeam_channel.specs.declared.flavors.array.ruled.Sending as sender
use Rattle.crossbeam_channel.specs.Claims.{Pass, IsSeatAt, view}
use Rattle.crossbeam_channel.specs.Ends.{receives_on, ruled_capacity, sends_on}
use Rattle.atomic_table.specs.declared.badge.Badge.{Badge}
use Rattle.iocm_queue.specs.declared.message.Message.{Message}
use Rattle.iocm_queue.specs.declared.message.Message.TheVariants.{Line, End}
use Rattle.iocm_queue.specs.declared.part.Part.{Part}
use Rattle.iocm_queue.specs.declared.worker.Progress.{Progress}
use Rattle.iocm_queue.specs.Ends.{Channel, Sending, Taking, as_lines}
use Rattle.iocm_queue.specs.Taken.{is_over, lines_of}

-- the kit's channel, with what the types above it leave open
abbrev pub Ring : Type 0 → Type 0 → Type 0 → Type 0 → Type 0 → Type 0
Ring T Q M L A = Rows (Badge (Key (Message T))) (Doing (Message T) (Part T)) Q M (Key (Message T)) L A

-- a pass of the channel
abbrev pub Token : Type 0 → Type 0
Token T = Pass (Message T) (Part T)

module _ {T : Type 0} where
  -- the lines among messages
  abbrev pub all_lines : List (Message T) → List T
  all_lines [] = []
  all_lines (Line p x ∷ ms) = x ∷ all_lines ms
  all_lines (End p ∷ ms) = all_lines ms

  -- which channel a pass belongs to
  abbrev pub channel_of : Token T → Channel T
  channel_of p = record { turns = p.table_id; places = p.me.0.of }

  -- an operator of this number and the worker, by their passes
  abbrev pub sending_of : ℕ → Token T → Sending T
  sending_of n p = record { channel = channel_of p; number = n; sent = all_lines (view p).sent }

  abbrev pub taking_of : Token T → Taking T
  taking_of p = record { channel = channel_of p; taken = (view p).taken }

  -- how far the worker is with an operator, once it has taken these messages
  abbrev pub progress_of : ℕ → List (Message T) → Progress
  progress_of p ms = record { lines = length (lines_of p ms); over = is_over p ms }

  -- a pass sends as this operator, and these messages were sent with it
  pub record Speaks (n : ℕ) (sent : List (Message T)) (v : Part T) : Type 0 where
    pub sends : v.sends ≡ true
    pub by : v.by ≡ n
    pub sent_are : v.sent ≡ sent

  module _ {Q M L A B : Type 0} (s : sender.Sending (Ring T Q M L A) B) where
    -- the sending end of a channel of 16 places, and a pass of that channel
    pub record IsSender (p : Token T) : Type 0 where
      pub at : IsSeatAt (sends_on s) p
      pub places : ruled_capacity (sends_on s) ≡ 16

    -- an operator has sent lines alone
    pub record IsOperator (n : ℕ) (p : Token T) : Type 0 where
      pub sender : IsSender p
      pub speaks : Speaks n (as_lines n (all_lines (view p).sent)) (view p)

    -- the worker takes the messages of operators 0 and 1, and knows how far it is with each
    pub record IsWorker (r : receiver.Receiving (Ring T Q M L A) B) (p : Token T)
        (progress : List Progress) : Type 0 where
      pub sender : IsSender p
      pub receiver : receives_on r ≡ sends_on s
      pub takes : (view p).takes ≡ true
      pub operators : (view p).operators ≡ 2
      pub counted : progress ≡ progress_of 0 (view p).taken ∷ progress_of 1 (view p).taken ∷ []

  -- an operator has sent its lines and, behind them, its end mark
  pub record IsFinished (n : ℕ) (p : Token T) : Type 0 where
    pub free : p.me.1 ≡ []
    pub speaks : Speaks n (as_lines n (all_lines (view p).sent) ++ End n ∷ []) (view p)

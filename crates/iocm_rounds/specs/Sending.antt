-- What operators send.
use Rattle.std.specs.Prelude.{◌≡◌, List, [], ◌++◌}
use Rattle.iocm_core.specs.declared.call.Call.{Call}
use Rattle.iocm_queue.specs.Ends.{Sending, Taking}
use Rattle.iocm_rounds.specs.declared.office.Operators.{Operators}

-- an operator has sent the first of its calls, in order
pub record IsSent (calls : List Call) (old new : Sending Call) (left : List Call) : Type 0 where
  pub channel : new.channel ≡ old.channel
  pub number : new.number ≡ old.number
  pub all : calls ≡ new.sent ++ left

-- both operators have
pub record AreSent (p q : List Call) (first second first_new second_new : Sending Call)
    (left_p left_q : List Call) : Type 0 where
  pub of_first : IsSent p first first_new left_p
  pub of_second : IsSent q second second_new left_q

-- the same, told by what is left of both
abbrev pub OperatorsDid : List Call → List Call → Sending Call → Sending Call → Operators → Type 0
OperatorsDid p q first second o = AreSent p q first second o.p.done o.q.done o.p.left.items o.q.left.items

-- a queue that is new: operators 0 and 1 and the worker of one channel, of whom nothing was sent or
-- taken
pub record IsNewQueue (first second : Sending Call) (worker : Taking Call) : Type 0 where
  pub first_is : first ≡ record { channel = worker.channel; number = 0; sent = [] }
  pub second_is : second ≡ record { channel = worker.channel; number = 1; sent = [] }
  pub taken : worker.taken ≡ []

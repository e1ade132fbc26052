-- What was taken of each operator.
use Rattle.std.specs.Prelude.{◌≡◌, ℕ, ◌==◌, Bool, true, false, cond, ◌||◌}
use Rattle.std.specs.Prelude.{List, [], ◌∷◌, ◌++◌, filter, length, ⊤}
use Rattle.iocm_queue.specs.declared.message.Item.{Item}
use Rattle.iocm_queue.specs.declared.message.Item.TheVariants as items
use Rattle.iocm_queue.specs.declared.message.Message.{Message}
use Rattle.iocm_queue.specs.declared.message.Message.TheVariants.{Line, End}

module _ {T : Type 0} where
  -- which operator sent a message
  abbrev pub sender_of : Message T → ℕ
  sender_of (Line p x) = p
  sender_of (End p) = p

  -- the messages of an operator
  abbrev pub of : ℕ → List (Message T) → List (Message T)
  of p ms = filter (λ m. sender_of m == p) ms

  -- the lines of an operator, without its end mark
  abbrev pub lines_of : ℕ → List (Message T) → List T
  lines_of p [] = []
  lines_of p (Line q x ∷ ms) = cond (q == p) (x ∷ lines_of p ms) (lines_of p ms)
  lines_of p (End q ∷ ms) = lines_of p ms

  -- the end mark of an operator is among the messages
  abbrev pub is_over : ℕ → List (Message T) → Bool
  is_over p [] = false
  is_over p (Line q x ∷ ms) = is_over p ms
  is_over p (End q ∷ ms) = (q == p) || is_over p ms

  -- both end marks are
  abbrev pub AreOver : List (Message T) → Type 0
  AreOver ms = (is_over 0 ms ≡ true) × (is_over 1 ms ≡ true)

  -- the message of an item
  abbrev pub message_of : Item T → Message T
  message_of (items.Line p k x) = Line p x
  message_of (items.End p) = End p

  -- an item that is taken after these messages: a line has as its index how many lines of its
  -- operator are among them
  abbrev pub IsNumbered : List (Message T) → Item T → Type 0
  IsNumbered taken (items.Line p k x) = k ≡ length (lines_of p taken)
  IsNumbered taken (items.End p) = ⊤

  -- the last messages that an operator sent wait in the channel
  abbrev pub IsWaiting : ℕ → List (Message T) → List (Message T) → Type 0
  IsWaiting p sent items = (first : List (Message T)) × (sent ≡ first ++ of p items)

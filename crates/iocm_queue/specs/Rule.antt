-- The rule of the channel: what holds of the messages in it and of the parts of all passes, between
-- any two steps.
use Rattle.std.specs.Prelude.{◌≡◌, ℕ, ◌<◌, ◌≤◌, true, List, [], ◌++◌}
use mathlib.Core.Option.{some}
use lib.ListN.{get_elem?}
use Rattle.iocm_queue.specs.declared.message.Message.{Message}
use Rattle.iocm_queue.specs.declared.part.Part.{Part}
use Rattle.iocm_queue.specs.Taken.{of}

module _ {T : Type 0} where
  -- what holds of the part of one pass, where these messages were sent in all, and those taken
  pub record Fits (seat : ℕ → ℕ) (worker operators : ℕ) (all taken : List (Message T)) (at : ℕ) (v : Part T)
      : Type 0 where
    -- each operator has one pass, which knows what that operator sent
    pub sent : v.sends ≡ true → (seat v.by ≡ at) × (v.by < operators) × (v.sent ≡ of v.by all)
    -- the worker has one pass, which knows what was taken
    pub taken_are : v.takes ≡ true → (worker ≡ at) × (v.taken ≡ taken) × (v.operators ≡ operators)

  -- the parts fit what was taken, and what is in the channel behind it, which operators alone have
  -- sent
  pub record Kept (items : List (Message T)) (parts : List (Part T)) : Type 0 where
    -- which pass each operator has, and which one the worker
    pub seat : ℕ → ℕ
    pub worker : ℕ
    -- how many operators there are; those below this number
    pub operators : ℕ
    pub taken : List (Message T)
    pub fits : (at : ℕ) (v : Part T) → get_elem? parts at ≡ some v
        → Fits seat worker operators (taken ++ items) taken at v
    pub none : (p : ℕ) → operators ≤ p → of p (taken ++ items) ≡ []

-- The calls that a caller makes one after the other.
use Rattle.std.specs.Prelude.{◌≡◌, ℕ, suc, ◌≤◌, Option, Some, None, List, [], ◌∷◌, ◌++◌, map}
use Rattle.iocm_types.specs.declared.rule.Rule.{Rule}
use Rattle.iocm_types.specs.declared.rule.Rule.TheVariants as rules
use Rattle.iocm_core.specs.declared.call.Call.{Call}
use Rattle.iocm_board.specs.declared.view.Made.{Made}
use Rattle.iocm_board.specs.Receipts.{made}
use Rattle.iocm_system.specs.Asking.{asked_by}
use Rattle.iocm_system.specs.Sights.{Sight}
use Rattle.iocm_system.specs.declared.receipt.Back.{Back}
use Rattle.iocm_system.specs.declared.receipt.Receipt.{Receipt}

-- the receipts of calls, as a caller has them: each with the whole call
abbrev pub gained : List Call → List Receipt → List Made
gained (c ∷ cs) (r ∷ rs) = made r.number (record { call = c; answer = r.answer }) ∷ gained cs rs
gained _ _ = []

-- the numbers of receipts rise, from at least the one number and below the other
abbrev pub Rise : ℕ → List Receipt → ℕ → Type 0
Rise from [] below = from ≤ below
Rise from (r ∷ rs) below = (from ≤ r.number) × Rise (suc r.number) rs below

-- a call that was handed back
abbrev pub handed_back : Option Back → List Call
handed_back None = []
handed_back (Some b) = b.call ∷ []

-- of these calls the first were made, with these receipts, and the rest was not; the caller has
-- gained just the receipts, and makes its calls under the same names
pub record IsTurn (calls : List Call) (old new : Sight) (receipts : List Receipt) (rest : List Call) : Type 0 where
  pub first : List Call
  pub all : calls ≡ first ++ rest
  pub asked : map (λ (r : Receipt). r.asked) receipts ≡ map asked_by first
  pub gained_are : new.receipts ≡ old.receipts ++ gained first receipts
  pub rise : Rise old.seen receipts new.seen
  pub tag : new.tag ≡ old.tag
  pub origin : new.origin ≡ old.origin
  pub names : new.names ≡ old.names

-- why a turn ended before its last call, and what its caller has then seen: M1, there was no memory
-- for the receipt; G1, the gate let nothing through; O3, the trace has no room; X1, what lies under
-- the lock is of another system
abbrev pub EndsATurn : Rule → Sight → Type 0
EndsATurn rules.M1 c = Unit {0}
EndsATurn rules.G1 c = Unit {0}
EndsATurn rules.O3 c = c.seen ≡ c.origin.room
EndsATurn rules.X1 c = Unit {0}
EndsATurn _ c = ⊥

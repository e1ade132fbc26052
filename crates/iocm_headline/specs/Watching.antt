-- What a caller has seen, along the calls of its system.
use Rattle.std.specs.Prelude.{◌≡◌, ◌≤◌, ℕ, List, [], ◌∷◌}
use Rattle.iocm_core.specs.declared.call.Call.{Call}
use Rattle.iocm_system.specs.Calling.{IsMade, IsHandedBack}
use Rattle.iocm_system.specs.Sights.{Sight, sees_now, lends_one, borrowed, joined}
use Rattle.iocm_system.specs.declared.receipt.Back.{Back}
use Rattle.iocm_system.specs.declared.receipt.Receipt.{Receipt}

-- one call of the system makes this of a caller: it looks, makes a call, gets one back, lends a
-- name, is the new caller under that name, or is joined with another, whichever comes first
pub data GoesOn (old new : Sight) : Type 0 where
  looks : (count : ℕ) → old.seen ≤ count → new ≡ sees_now old count → GoesOn old new
  calls : (x : Call) (r : Receipt) → IsMade x old r new → GoesOn old new
  gets_back : (x : Call) (b : Back) → IsHandedBack x old b new → GoesOn old new
  lends : new ≡ lends_one old → GoesOn old new
  begins : new ≡ borrowed old → GoesOn old new
  joins : (other : Sight) → new ≡ joined old other → GoesOn old new
  is_joined : (other : Sight) → new ≡ joined other old → GoesOn old new

-- so does each of the calls that come to one sight after the other
abbrev pub GoesAlong : Sight → List Sight → Sight → Type 0
GoesAlong old [] new = GoesOn old new
GoesAlong old (s ∷ sights) new = GoesOn old s × GoesAlong s sights new

-- the caller that is left has seen at least as many calls
abbrev pub ACountNeverFalls : Type 0
ACountNeverFalls = (old : Sight) (sights : List Sight) (new : Sight) → GoesAlong old sights new → old.seen ≤ new.seen

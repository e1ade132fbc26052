-- The rows of a walk over a configuration are of the configuration.
use Rattle.std.proofs.Common.{◌≡◌, Bool, true, false, cond, List, [], ◌∷◌, Some, T, ◌∙◌}
use Rattle.std.specs.Ordering.{is_le}
use Rattle.std.specs.FinMap.{find, get, entries, is_sorted, entries_sorted, get-entries}
use Rattle.iocm_types.specs.declared.key.Key.{Key}
use Rattle.iocm_types.specs.Key.{key_cmp}
use Rattle.iocm_types.specs.KeyOrder.{keys_total, keys_exact}
use Rattle.iocm_types.proofs.Found.{found_first, found_later}
use Rattle.iocm_types.proofs.Tests.{first_holds, second_holds}
use Rattle.iocm_table.specs.Slots.{rows_from}
use Rattle.iocm_model.specs.Machine.Record.{Rec}
use Rattle.iocm_model.specs.Machine.Configuration.{Configuration}
use Rattle.iocm_config.specs.Walked.{AreOf}

-- entries in order that are found in a configuration are of it
found_are_of : (m : Configuration) (es : List (Key × Rec)) → T (is_sorted key_cmp es)
    → ((k : Key) (r : Rec) → find key_cmp k es ≡ Some r → get m k ≡ Some r) → AreOf m es
found_are_of m [] up is = tt
found_are_of m (e ∷ es) up is = (
  is e.0 e.1 (found_first key_cmp keys_total keys_exact e es),
  found_are_of m es (second_holds _ _ up)
      (λ k r h. is k r (found_later key_cmp keys_total keys_exact k e es r (first_holds _ _ up) h)),
)

kept : (m : Configuration) (e : Key × Rec) (es : List (Key × Rec)) (b : Bool) → get m e.0 ≡ Some e.1 → AreOf m es
    → AreOf m (cond b (e ∷ es) es)
kept m e es true here rest = (here, rest)
kept m e es false here rest = rest

-- of some rows those from a key on
from_key : (m : Configuration) (k : Key) (es : List (Key × Rec)) → AreOf m es → AreOf m (rows_from key_cmp k es)
from_key m k [] of = tt
from_key m k (e ∷ es) of = kept m e (rows_from key_cmp k es) (is_le (key_cmp k e.0)) of.0 (from_key m k es of.1)

-- the rows of a configuration from a key on
pub walked_are_of : (m : Configuration) (k : Key) → AreOf m (rows_from key_cmp k (entries m))
walked_are_of m k = from_key m k (entries m)
    (found_are_of m (entries m) (entries_sorted m) (λ q r h. get-entries m q ∙ h))

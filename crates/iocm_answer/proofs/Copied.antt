-- The records of a configuration make it again.
use Rattle.std.proofs.Common.{◌≡◌, ◌∙◌, List, [], ◌∷◌, T, sym, subst}
use Rattle.std.specs.FinMap.{entries, entries_sorted, from_entries, get-entries, get-from_entries, is_sorted, same_map}
use Rattle.iocm_types.specs.Key.{key_cmp}
use Rattle.iocm_types.specs.KeyOrder.{keys_exact, keys_total}
use Rattle.iocm_types.proofs.Entries.{not_found}
use Rattle.iocm_types.proofs.Tests.{first_holds, second_holds}
use Rattle.iocm_model.specs.Machine.Record.{Rec, key_of}
use Rattle.iocm_model.specs.Machine.Configuration.{Configuration, HasNoKeyTwice, IsKeyed, configuration_of, records_of}
use Rattle.iocm_model.specs.Machine.Configuration.{with_keys}

apart_in : (rs : List Rec) → T (is_sorted key_cmp (with_keys rs)) → HasNoKeyTwice rs
apart_in [] rise = tt
apart_in (r ∷ rs) rise =
    (not_found key_cmp (key_of r) (with_keys rs) (first_holds _ _ rise), apart_in rs (second_holds _ _ rise))

-- no key of theirs stands twice
pub own_apart : (c : Configuration) → IsKeyed c → HasNoKeyTwice (records_of c)
own_apart c keyed =
    apart_in (records_of c) (subst (λ es. T (is_sorted key_cmp es)) keyed (entries_sorted c))

pub own_again : (c : Configuration) → IsKeyed c → configuration_of (records_of c) ≡ c
own_again c keyed = (λ i. from_entries {R = key_cmp} (sym keyed i))
    ∙ same_map keys_total keys_exact _ _
    (λ q. get-from_entries keys_total (entries c) q ∙ sym (get-entries c q))

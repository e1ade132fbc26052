-- The records of a configuration give it again.
use Rattle.std.proofs.Common.{◌≡◌, List, [], ◌∷◌, T, sym, ap, subst, ◌∙◌}
use Rattle.std.specs.FinMap.{entries_sorted, is_sorted, get-entries, get-from_entries, same_map, find}
use Rattle.iocm_types.specs.Key.{key_cmp}
use Rattle.iocm_types.specs.KeyOrder.{keys_total, keys_exact}
use Rattle.iocm_types.specs.declared.key.Key.{Key}
use Rattle.iocm_types.proofs.Entries.{not_found}
use Rattle.iocm_types.proofs.Tests.{first_holds, second_holds}
use Rattle.iocm_model.specs.Machine.Record.{Rec, key_of}
use Rattle.iocm_model.specs.Machine.Configuration.{Configuration, with_keys, configuration_of, HasNoKeyTwice}
use Rattle.iocm_model.specs.Machine.Configuration.{records_of, IsKeyed}

rising_apart : (rs : List Rec) → T (is_sorted key_cmp (with_keys rs)) → HasNoKeyTwice rs
rising_apart [] up = tt
rising_apart (r ∷ rs) up =
    (not_found key_cmp (key_of r) (with_keys rs) (first_holds _ _ up), rising_apart rs (second_holds _ _ up))

-- no key stands twice among them
pub records_apart : (c : Configuration) → IsKeyed c → HasNoKeyTwice (records_of c)
records_apart c keyed = rising_apart (records_of c)
    (subst (λ (es : List (Key × Rec)). T (is_sorted key_cmp es)) keyed (entries_sorted c))

-- they are its records
pub records_again : (c : Configuration) → IsKeyed c → configuration_of (records_of c) ≡ c
records_again c keyed = same_map keys_total keys_exact (configuration_of (records_of c)) c (λ q.
    get-from_entries keys_total (with_keys (records_of c)) q ∙ sym (ap (find key_cmp q) keyed) ∙ sym (get-entries c q))

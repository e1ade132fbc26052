-- Each record stands under its own key: said of the entries, and of what is found.
use Rattle.std.proofs.Common.{◌≡◌, Bool, true, false, cond, List, [], ◌∷◌, map, Option, Some, T, refl, sym, ap, ◌∙◌}
use Rattle.std.specs.Ordering.{eq_by_cmp}
use Rattle.std.specs.FinMap.{find, get, entries, entries_sorted, is_sorted, get-entries}
use Rattle.iocm_types.specs.declared.key.Key.{Key}
use Rattle.iocm_types.specs.Key.{key_cmp}
use Rattle.iocm_types.specs.KeyOrder.{keys_total, keys_exact}
use Rattle.iocm_types.proofs.Found.{same_key, found_first, found_later}
use Rattle.iocm_types.proofs.Tests.{first_holds, second_holds}
use Rattle.iocm_model.specs.Machine.Record.{Rec, key_of}
use Rattle.iocm_model.specs.Machine.Configuration.{Configuration, IsKeyed, with_keys, records_of}

found_by : (b : Bool) (k : Key) (x r : Rec) (rest : Option Rec) → eq_by_cmp key_cmp k (key_of x) ≡ b
    → (rest ≡ Some r → key_of r ≡ k)
    → cond b (Some x) rest ≡ Some r → key_of r ≡ k
found_by true k x r rest e more h = let same : x ≡ r = cc in
    ap key_of (sym same) ∙ sym (same_key key_cmp keys_exact k (key_of x) e)
found_by false k x r rest e more h = more h

found_own : (rs : List Rec) (k : Key) (r : Rec) → find key_cmp k (with_keys rs) ≡ Some r → key_of r ≡ k
found_own [] k r h = cc
found_own (x ∷ rs) k r h =
    found_by (eq_by_cmp key_cmp k (key_of x)) k x r (find key_cmp k (with_keys rs)) refl (found_own rs k r) h

-- what is found stands under its own key
pub keyed_own : (c : Configuration) → IsKeyed c → (k : Key) (r : Rec) → get c k ≡ Some r → key_of r ≡ k
keyed_own c own k r h = found_own (records_of c) k r (ap (find key_cmp k) (sym own) ∙ sym (get-entries c k) ∙ h)

entries_own : (es : List (Key × Rec)) → T (is_sorted key_cmp es)
    → ((k : Key) (r : Rec) → find key_cmp k es ≡ Some r → key_of r ≡ k)
    → es ≡ with_keys (map (λ e. e.1) es)
entries_own [] up own = refl
entries_own (e ∷ es) up own =
    let here : key_of e.1 ≡ e.0 = own e.0 e.1 (found_first key_cmp keys_total keys_exact e es) in
    let rest : es ≡ with_keys (map (λ f. f.1) es) = entries_own es (second_holds _ _ up)
    (λ k r h. own k r (found_later key_cmp keys_total keys_exact k e es r (first_holds _ _ up) h)) in
    λ i. (sym here i, e.1) ∷ rest i

-- where all that is found does, the entries do
pub own_keyed : (c : Configuration) → ((k : Key) (r : Rec) → get c k ≡ Some r → key_of r ≡ k) → IsKeyed c
own_keyed c own = entries_own (entries c) (entries_sorted c) (λ k r h. own k r (get-entries c k ∙ h))

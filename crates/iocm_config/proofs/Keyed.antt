-- Each record stands under its own key: where there is none, in a configuration of records, and
-- after an edit.
use Rattle.std.proofs.Common.{◌≡◌, false, List, [], ◌∷◌, is_some, ap, ◌∙◌, sym}
use Rattle.std.specs.List.{IsDistinct, AllByRecursion, list_any}
use Rattle.std.specs.Ordering.{eq_by_cmp}
use Rattle.std.specs.Map.{keys_of}
use Rattle.std.specs.FinMap.{empty, insert, remove, get-empty}
use Rattle.std.specs.FinMap.Entries.{is_some-find}
use Rattle.std.proofs.lemmas.Bool.{or_parts}
use Rattle.iocm_types.specs.declared.key.Key.{Key}
use Rattle.iocm_types.specs.Key.{key_cmp}
use Rattle.iocm_model.specs.Machine.Record.{Rec, key_of}
use Rattle.iocm_model.specs.Machine.Configuration.{Configuration, with_keys, configuration_of, HasNoKeyTwice, IsKeyed}
use Rattle.iocm_model.specs.Change.Edit.{add, delete}
use Rattle.iocm_model.proofs.Machine.OwnKeys.{own_keyed}
use Rattle.iocm_model.proofs.Change.RunsGoBack.{keyed_after}

-- no records
pub keyed_none : IsKeyed empty
keyed_none = own_keyed empty (λ k r h. let none = get-empty {X = Rec} key_cmp k in cc)

-- one more record, under its key
pub keyed_put : (c : Configuration) (r : Rec) → IsKeyed c → IsKeyed (insert c (key_of r) r)
keyed_put c r own = keyed_after (add r) c own

-- one record less
pub keyed_taken : (c : Configuration) (key : Key) → IsKeyed c → IsKeyed (remove c key)
keyed_taken c key own = keyed_after (delete key) c own

-- the configuration of records
pub keyed_made : (rs : List Rec) → IsKeyed (configuration_of rs)
keyed_made [] = keyed_none
keyed_made (r ∷ rs) = keyed_put (configuration_of rs) r (keyed_made rs)

-- a key that no test meets is apart from each
apart_each : (k : Key) (ks : List Key) → list_any (eq_by_cmp key_cmp k) ks ≡ false
    → AllByRecursion (λ q. eq_by_cmp key_cmp k q ≡ false) ks
apart_each k [] none = tt
apart_each k (q ∷ ks) none = let parts = or_parts _ _ none in (parts.0, apart_each k ks parts.1)

-- no key twice: each is apart from those after it
pub keys_apart : (rs : List Rec) → HasNoKeyTwice rs → IsDistinct (eq_by_cmp key_cmp) (keys_of (with_keys rs))
unfolding IsDistinct
keys_apart [] single = tt
keys_apart (r ∷ rs) single = (
  apart_each (key_of r) (keys_of (with_keys rs))
      (sym (is_some-find key_cmp (key_of r) (with_keys rs)) ∙ ap is_some single.0),
  keys_apart rs single.1,
)

-- Keys with one more, or not.
use Rattle.std.proofs.Common.{◌≡◌, ◌&&◌, ◌||◌, Bool, true, false, cond, is_some, List, [], ◌∷◌, Option, None, Some}
use Rattle.std.proofs.Common.{refl, sym, ap, ◌∙◌}
use Rattle.std.proofs.Math.Bool.{or-false, or_assoc}
use Rattle.std.specs.FinMap.{empty, get, get-empty, get-insert, insert}
use Rattle.std.specs.Ordering.{eq_by_cmp}
use Rattle.iocm_types.specs.declared.key.Key.{Key}
use Rattle.iocm_types.specs.Key.{key_cmp}
use Rattle.iocm_types.specs.KeyOrder.{keys_total}
use Rattle.iocm_model.specs.Machine.Record.{Rec, key_of}
use Rattle.iocm_filter.specs.Sieves.{Keys, has_key}
use Rattle.iocm_filter.specs.Wanted.{Wanted, found_among, is_sought}

there : (b : Bool) (o : Option (Unit {0})) → is_some (cond b (Some tt) o) ≡ (is_some o || b)
there true None = refl
there true (Some x) = refl
there false o = sym (or-false (is_some o))

pub with_key : (m : Keys) (k key : Key) → has_key (insert m k tt) key ≡ (has_key m key || eq_by_cmp key_cmp key k)
with_key m k key = ap is_some (get-insert keys_total m k tt key) ∙ there (eq_by_cmp key_cmp key k) (get m key)

-- the walk over entries: at first there are no keys, one entry more may give one, and at the end none is left
pub first_key : (w : Wanted) (m : Keys) (es : List (Key × Rec)) (key : Key) → m ≡ empty
    → (has_key m key || found_among w es key) ≡ found_among w es key
first_key w m es key none = ap (λ (k : Keys). has_key k key || found_among w es key) none
    ∙ ap (λ o. is_some o || found_among w es key) (get-empty key_cmp key)

pub next_key : (w : Wanted) (m n : Keys) (e : Key × Rec) (all es : List (Key × Rec)) (key : Key) → all ≡ e ∷ es
    → has_key n key ≡ (has_key m key || (is_sought w e.1 && eq_by_cmp key_cmp key (key_of e.1)))
    → (has_key n key || found_among w es key) ≡ (has_key m key || found_among w all key)
next_key w m n e all es key steps is = ap (λ b. b || found_among w es key) is
    ∙ or_assoc (has_key m key) (is_sought w e.1 && eq_by_cmp key_cmp key (key_of e.1)) (found_among w es key)
    ∙ ap (λ xs. has_key m key || found_among w xs key) (sym steps)

pub last_key : (w : Wanted) (m : Keys) (es : List (Key × Rec)) (key : Key) → es ≡ []
    → has_key m key ≡ (has_key m key || found_among w es key)
last_key w m es key none = sym (or-false (has_key m key))
    ∙ ap (λ xs. has_key m key || found_among w xs key) (sym none)

pub ruleset key_steps = (first_key, next_key, last_key)

-- Actions that each leave at their key what a configuration has there lead to it.
use Rattle.std.proofs.Common.{◌≡◌, Bool, true, false, cond, ◌||◌, List, [], ◌∷◌, Option, refl, sym, ap, ◌∙◌}
use Rattle.std.specs.List.{All}
use Rattle.std.specs.Ordering.{eq_by_cmp}
use Rattle.std.specs.FinMap.{get, same_map}
use Rattle.std.proofs.lemmas.List.Elements.{All-head, All-tail}
use Rattle.iocm_types.specs.declared.key.Key.{Key}
use Rattle.iocm_types.specs.Key.{key_cmp}
use Rattle.iocm_types.specs.KeyOrder.{keys_total, keys_exact}
use Rattle.iocm_types.proofs.Found.{same_key}
use Rattle.iocm_model.specs.Machine.Record.{Rec}
use Rattle.iocm_model.specs.Machine.Configuration.{Configuration}
use Rattle.iocm_model.specs.Change.Edit.{Action, action_key, record_after, config_after}
use Rattle.iocm_model.proofs.Maps.Cells.{get_with_value}
use Rattle.iocm_difference.specs.Laws.{config_after_all, is_edited, AnyOrderLeads}

one_edit : (b r : Bool) (v x y : Option Rec) → (b ≡ true → v ≡ x) → cond r x (cond b v y) ≡ cond (b || r) x y
one_edit true true v x y same = refl
one_edit true false v x y same = same refl
one_edit false r v x y same = refl

-- after such actions an edited key has what that configuration has there, and any other key what it
-- had
pub get_after_all : (actions : List Action) (c d : Configuration)
    → All (λ a. record_after a ≡ get d (action_key a)) actions
    → (q : Key) → get (config_after_all actions c) q ≡ cond (is_edited q actions) (get d q) (get c q)
get_after_all [] c d leave q = refl
get_after_all (a ∷ actions) c d leave q =
    get_after_all actions (config_after a c) d (All-tail (λ a. record_after a ≡ get d (action_key a)) a actions leave) q
    ∙ ap (cond (is_edited q actions) (get d q))
    (get_with_value keys_total keys_exact c (action_key a) (record_after a) q)
    ∙ one_edit (eq_by_cmp key_cmp q (action_key a)) (is_edited q actions) (record_after a) (get d q) (get c q)
    (λ tie. All-head (λ a. record_after a ≡ get d (action_key a)) a actions leave
    ∙ ap (get d) (sym (same_key key_cmp keys_exact q (action_key a) tie)))

elsewhere : (b : Bool) (x y : Option Rec) → (b ≡ false → y ≡ x) → cond b x y ≡ x
elsewhere true x y same = refl
elsewhere false x y same = same refl

pub any_order_leads : AnyOrderLeads
any_order_leads actions c d bring = same_map keys_total keys_exact _ _
    (λ q. get_after_all actions c d bring.leave q
    ∙ elsewhere (is_edited q actions) (get d q) (get c q) (bring.others q))

unedited_by : (b r : Bool) (v x y : Option Rec) → (b || r) ≡ false → x ≡ cond b v y → x ≡ y
unedited_by true r v x y none is = cc
unedited_by false r v x y none is = is

rest_unedited : (b r : Bool) → (b || r) ≡ false → r ≡ false
rest_unedited true r none = cc
rest_unedited false r none = none

-- a key that no action edits keeps what it has
pub get_unedited : (actions : List Action) (c : Configuration) (q : Key) → is_edited q actions ≡ false
    → get (config_after_all actions c) q ≡ get c q
get_unedited [] c q none = refl
get_unedited (a ∷ actions) c q none =
    get_unedited actions (config_after a c) q
    (rest_unedited (eq_by_cmp key_cmp q (action_key a)) (is_edited q actions) none)
    ∙ unedited_by (eq_by_cmp key_cmp q (action_key a)) (is_edited q actions) (record_after a) (get (config_after a c) q)
    (get c q) none
    (get_with_value keys_total keys_exact c (action_key a) (record_after a) q)

-- The edits of the difference are accepted one after the other, where all live records are quiet.
use Rattle.std.proofs.Common.{◌≡◌, Bool, true, false, cond, List, [], ◌∷◌, map, Option, Some, None, refl, sym, ap}
use Rattle.std.proofs.Common.{subst, ◌∙◌}
use Rattle.std.specs.List.{All, AllByRecursion, IsDistinct}
use Rattle.std.specs.Option.{option_or, is_some}
use Rattle.std.specs.Ordering.{eq_by_cmp}
use Rattle.std.specs.FinMap.{get, contains_key}
use Rattle.std.proofs.lemmas.Cmp.{eq_by_cmp_equiv}
use Rattle.std.proofs.lemmas.List.Elements.{All-nil, All-cons, All-head, All-tail}
use Rattle.std.proofs.lemmas.List.Sorted.{All-permutation}
use Rattle.std.proofs.lemmas.Map.Keys.{IsDistinct-head, IsDistinct-tail}
use Rattle.iocm_types.specs.declared.key.Key.{Key}
use Rattle.iocm_types.specs.Key.{key_cmp}
use Rattle.iocm_types.specs.KeyOrder.{keys_total, keys_exact}
use Rattle.iocm_model.specs.Machine.Record.{Rec, key_of}
use Rattle.iocm_model.specs.Machine.Configuration.{Configuration, IsKeyed}
use Rattle.iocm_model.specs.Operation.State.{State, opening_state}
use Rattle.iocm_model.specs.Change.Edit.{Action, add, delete, modify, action_key, record_after, config_after}
use Rattle.iocm_model.specs.Change.Edit.{state_after, altered_by}
use Rattle.iocm_model.specs.Change.Maps.{differing}
use Rattle.iocm_model.specs.Change.Refusal.{refusal_by_key, refusal_by_subchannel, refusal_of, first_not_quiet}
use Rattle.iocm_model.specs.Change.Runs.{AreAccepted}
use Rattle.iocm_model.proofs.Change.LeastNotQuiet.{names_none_where_quiet}
use Rattle.iocm_model.proofs.Machine.OwnKeys.{keyed_own}
use Rattle.iocm_model.proofs.Maps.Cells.{get_with_value}
use Rattle.iocm_tree.specs.Carried.{bare}
use Rattle.iocm_difference.specs.Same.{same_record}
use Rattle.iocm_difference.specs.Difference.{action_between, actions_between, difference}
use Rattle.iocm_difference.proofs.Between.{all_made}
use Rattle.iocm_difference.proofs.Differences.{edits_each_key_once}
use Rattle.iocm_difference.proofs.Permuted.{passes_permute}
use Rattle.iocm_difference_laws.specs.Opened.{edits_of}
use Rattle.iocm_difference_laws.proofs.AtRest.{IsAtRest, opening_rests, edit_rests}

-- an action adds where nothing is, and deletes or modifies what is there
abbrev pub Fits : Configuration → Action → Type 0
Fits c a = refusal_by_key a (contains_key c (action_key a)) ≡ None

-- ---- an edit of another key doesn't matter

-- off the key of an action the configuration is as it was
pub off_key : (a : Action) (c : Configuration) (q : Key) → eq_by_cmp key_cmp (action_key a) q ≡ false
    → get (config_after a c) q ≡ get c q
off_key a c q apart = get_with_value keys_total keys_exact c (action_key a) (record_after a) q
    ∙ ap (λ b. cond b (record_after a) (get c q)) ((eq_by_cmp_equiv keys_total).symm q (action_key a) ∙ apart)

-- what holds of a configuration and each of some actions of other keys
module _ (P : Configuration → Action → Type 0)
    (same : (a : Action) (c d : Configuration) → get c (action_key a) ≡ get d (action_key a) → P c a → P d a) where
  pub still_all : (a : Action) (actions : List Action) (c : Configuration)
      → AllByRecursion (λ k. eq_by_cmp key_cmp (action_key a) k ≡ false) (map action_key actions)
      → All (P c) actions → All (P (config_after a c)) actions
  still_all a [] c apart all = All-nil (P (config_after a c))
  still_all a (b ∷ actions) c apart all =
      All-cons (P (config_after a c)) b actions
      (same b c (config_after a c) (sym (off_key a c (action_key b) apart.0)) (All-head (P c) b actions all))
      (still_all a actions c apart.1 (All-tail (P c) b actions all))

same_fit : (a : Action) (c d : Configuration) → get c (action_key a) ≡ get d (action_key a) → Fits c a → Fits d a
same_fit a c d same fit = ap (λ (o : Option Rec). refusal_by_key a (is_some o)) (sym same) ∙ fit

-- ---- each is accepted

not_refused : (a : Action) (s : State) → Fits s.config a → IsAtRest s.lives → refusal_of (bare a).edit s ≡ None
not_refused a s fit rest =
    let e = (bare a).edit in
    ap (λ why. option_or why (refusal_by_subchannel (first_not_quiet s.lives (altered_by e s)))) fit
    ∙ ap refusal_by_subchannel ((names_none_where_quiet e s).1 (λ x among. rest x))

pub all_accepted : (actions : List Action) (s : State) → IsDistinct (eq_by_cmp key_cmp) (map action_key actions)
    → All (Fits s.config) actions → IsAtRest s.lives
    → AreAccepted (edits_of actions) s
all_accepted [] s distinct fit rest = tt
all_accepted (a ∷ actions) s distinct fit rest = (
  not_refused a s (All-head (Fits s.config) a actions fit) rest,
  all_accepted actions (state_after (bare a).edit s)
      (IsDistinct-tail (eq_by_cmp key_cmp) (action_key a) (map action_key actions) distinct)
      (still_all Fits same_fit a actions s.config
      (IsDistinct-head (eq_by_cmp key_cmp) (action_key a) (map action_key actions) distinct)
      (All-tail (Fits s.config) a actions fit))
      (edit_rests a s rest),
)

-- ---- the actions of the difference fit

fits_by : (c : Configuration) (x y : Action) (k : Key) (b : Bool) → x ≡ y → action_key x ≡ k → contains_key c k ≡ b
    → refusal_by_key x b ≡ None → Fits c y
fits_by c x y k b same key there fit =
    subst (Fits c) same (ap (refusal_by_key x) (ap (contains_key c) key ∙ there) ∙ fit)

modified_fits : (t : Bool) (c : Configuration) (k : Key) (new : Rec) (x : Action) → contains_key c k ≡ true
    → key_of new ≡ k → cond t None (Some (modify new)) ≡ Some x → Fits c x
modified_fits true c k new x there own is = cc
modified_fits false c k new x there own is = let same : modify new ≡ x = cc in
    fits_by c (modify new) x k true same own there refl

fits_between : (c : Configuration) (k : Key) (a b : Option Rec) (x : Action) → get c k ≡ a
    → ((r : Rec) → b ≡ Some r → key_of r ≡ k)
    → action_between k a b ≡ Some x → Fits c x
fits_between c k None None x was own is = cc
fits_between c k None (Some new) x was own is = let same : add new ≡ x = cc in
    fits_by c (add new) x k false same (own new refl) (ap is_some was) refl
fits_between c k (Some old) None x was own is = let same : delete k ≡ x = cc in
    fits_by c (delete k) x k true same refl (ap is_some was) refl
fits_between c k (Some old) (Some new) x was own is =
    modified_fits (same_record old new) c k new x (ap is_some was) (own new refl) is

pub actions_fit : (c d : Configuration) → IsKeyed d → All (Fits c) (actions_between c d)
actions_fit c d keyed = all_made (Fits c) (λ key. action_between key (get c key) (get d key))
    (λ k x is. fits_between c k (get c k) (get d k) x refl (λ r h. keyed_own d keyed k r h) is)
    (differing same_record c d)

difference_fits : (c d : Configuration) → IsKeyed d → All (Fits c) (difference c d)
difference_fits c d keyed =
    All-permutation (Fits c) (actions_between c d) (difference c d) (passes_permute (actions_between c d))
    (actions_fit c d keyed)

-- on the machine that is opened from the old configuration they are accepted
pub difference_accepted : (c d : Configuration) → IsKeyed d → AreAccepted (edits_of (difference c d)) (opening_state c)
difference_accepted c d keyed =
    all_accepted (difference c d) (opening_state c) (edits_each_key_once c d keyed) (difference_fits c d keyed)
    (opening_rests c)

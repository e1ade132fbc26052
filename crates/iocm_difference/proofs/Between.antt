-- The actions between two configurations: one for each key at which they differ, which leaves there
-- what the second has.
use Rattle.std.proofs.Common.{◌≡◌, ℕ, ◌+◌, ◌≤◌, Bool, true, false, not, cond, List, [], ◌∷◌, map, filter, length}
use Rattle.std.proofs.Common.{Option, Some, None, refl, sym, ap, ◌∙◌, arith}
use Rattle.std.specs.List.{All, filter_map, cons_option, list_any}
use Rattle.std.specs.Option.{option_eq, option_map}
use Rattle.std.specs.Ordering.{eq_by_cmp}
use Rattle.std.specs.FinMap.{get}
use Rattle.std.proofs.lemmas.List.Elements.{All-nil, All-cons}
use Rattle.iocm_types.specs.declared.key.Key.{Key}
use Rattle.iocm_types.specs.Key.{key_cmp}
use Rattle.iocm_types.specs.KeyOrder.{keys_total, keys_exact}
use Rattle.iocm_model.specs.Machine.Record.{Rec, key_of}
use Rattle.iocm_model.specs.Machine.Configuration.{Configuration, IsKeyed}
use Rattle.iocm_model.specs.Change.Edit.{Action, add, delete, modify, action_key, record_after}
use Rattle.iocm_model.specs.Change.Maps.{differing}
use Rattle.iocm_model.proofs.Machine.OwnKeys.{keyed_own}
use Rattle.iocm_model.proofs.Maps.Cells.{in_differing}
use Rattle.iocm_difference.specs.Same.{same_record}
use Rattle.iocm_difference.specs.Difference.{action_between, actions_between}
use Rattle.iocm_difference.specs.Laws.{is_edited}
use Rattle.iocm_difference.proofs.Paired.{keys_of_both}

-- ---- what is made of keys

module _ (P : Action → Type 0) (h : Key → Option Action) (each : (k : Key) (x : Action) → h k ≡ Some x → P x) where
  made_by : (k : Key) (o : Option Action) (rest : List Action) → h k ≡ o → All P rest → All P (cons_option o rest)
  made_by k None rest is all = all
  made_by k (Some x) rest is all = All-cons P x rest (each k x is) all

  -- what holds of each action that a key makes
  pub all_made : (ks : List Key) → All P (filter_map h ks)
  all_made [] = All-nil P
  all_made (k ∷ ks) = made_by k (h k) (filter_map h ks) refl (all_made ks)

module _ (p : Key → Bool) (h : Key → Option Action)
    (each : (k : Key) → p k ≡ true → option_map action_key (h k) ≡ Some k) where
  one_key : (k : Key) (o : Option Action) (rest : List Action) (ks : List Key) → option_map action_key o ≡ Some k
      → map action_key rest ≡ ks
      → map action_key (cons_option o rest) ≡ k ∷ ks
  one_key k None rest ks is more = cc
  one_key k (Some x) rest ks is more = let own : action_key x ≡ k = cc in λ i. own i ∷ more i

  key_by : (k : Key) (b : Bool) (ks : List Key) → p k ≡ b → map action_key (filter_map h ks) ≡ ks
      → map action_key (filter_map h (cond b (k ∷ ks) ks)) ≡ cond b (k ∷ ks) ks
  key_by k true ks is more = one_key k (h k) (filter_map h ks) ks (each k is) more
  key_by k false ks is more = more

  -- the keys of the actions that keys make are those keys
  pub keys_made : (ks : List Key) → map action_key (filter_map h (filter p ks)) ≡ filter p ks
  keys_made [] = refl
  keys_made (k ∷ ks) = key_by k (p k) (filter p ks) refl (keys_made ks)

-- ---- at one key

modified : (t : Bool) (k : Key) (new : Rec) (x : Action) → key_of new ≡ k → cond t None (Some (modify new)) ≡ Some x
    → (action_key x ≡ k) × (record_after x ≡ Some new)
modified true k new x own is = cc
modified false k new x own is = let same : modify new ≡ x = cc in
    (ap action_key (sym same) ∙ own, ap record_after (sym same))

-- an action between two records is one of the key, and leaves the second
pub leads_there : (k : Key) (a b : Option Rec) (x : Action) → ((r : Rec) → b ≡ Some r → key_of r ≡ k)
    → action_between k a b ≡ Some x
    → (action_key x ≡ k) × (record_after x ≡ b)
leads_there k None None x own is = cc
leads_there k None (Some new) x own is = let same : add new ≡ x = cc in
    (ap action_key (sym same) ∙ own new refl, ap record_after (sym same))
leads_there k (Some old) None x own is = let same : delete k ≡ x = cc in
    (ap action_key (sym same), ap record_after (sym same))
leads_there k (Some old) (Some new) x own is = modified (same_record old new) k new x (own new refl) is

modified_key : (t : Bool) (k : Key) (new : Rec) → key_of new ≡ k → not t ≡ true
    → option_map action_key (cond t None (Some (modify new))) ≡ Some k
modified_key true k new own differs = cc
modified_key false k new own differs = ap Some own

-- where they differ there is one
pub something_between : (k : Key) (a b : Option Rec) → ((r : Rec) → b ≡ Some r → key_of r ≡ k)
    → not (option_eq same_record a b) ≡ true
    → option_map action_key (action_between k a b) ≡ Some k
something_between k None None own differs = cc
something_between k None (Some new) own differs = ap Some (own new refl)
something_between k (Some old) None own differs = refl
something_between k (Some old) (Some new) own differs = modified_key (same_record old new) k new (own new refl) differs

-- ---- of two configurations

-- each leaves at its key what the second has there
pub each_leaves : (c d : Configuration) → IsKeyed d
    → All (λ a. record_after a ≡ get d (action_key a)) (actions_between c d)
each_leaves c d keyed = all_made (λ a. record_after a ≡ get d (action_key a))
    (λ key. action_between key (get c key) (get d key))
    (λ k x is. let leads = leads_there k (get c k) (get d k) x (λ r h. keyed_own d keyed k r h) is in leads.1
    ∙ ap (get d) (sym leads.0))
    (differing same_record c d)

-- their keys are those at which the two differ
pub keys_between : (c d : Configuration) → IsKeyed d → map action_key (actions_between c d) ≡ differing same_record c d
keys_between c d keyed = keys_made (λ key. not (option_eq same_record (get c key) (get d key)))
    (λ key. action_between key (get c key) (get d key))
    (λ k differs. something_between k (get c k) (get d k) (λ r h. keyed_own d keyed k r h) differs) (keys_of_both c d)

pub edited_between : (c d : Configuration) (q : Key) → IsKeyed d
    → is_edited q (actions_between c d) ≡ not (option_eq same_record (get c q) (get d q))
edited_between c d q keyed =
    ap (list_any (eq_by_cmp key_cmp q)) (keys_between c d keyed) ∙ in_differing keys_total keys_exact same_record c d q

no_longer : (o : Option Action) (xs : List Action) (n : ℕ) → length xs ≤ n → length (cons_option o xs) ≤ n + 1
no_longer None xs n h = omega arith
no_longer (Some x) xs n h = omega arith

-- keys make no more actions than there are keys
pub made_no_longer : (h : Key → Option Action) (ks : List Key) → length (filter_map h ks) ≤ length ks
made_no_longer h [] = omega arith
made_no_longer h (k ∷ ks) = omega (arith, no_longer (h k) (filter_map h ks) (length ks) (made_no_longer h ks))

-- What the difference of two configurations promises, proved of the definitions.
use Rattle.std.proofs.Common.{◌≡◌, ◌≤◌, Bool, true, false, not, cond, List, [], ◌∷◌, map, length, Option, Some, None}
use Rattle.std.proofs.Common.{refl, sym, ap, subst, ◌∙◌, arith}
use Rattle.std.specs.List.{IsDistinct, list_any}
use Rattle.std.specs.List.Sorted.{IsPermutation}
use Rattle.std.specs.Option.{option_eq}
use Rattle.std.specs.Ordering.{eq_by_cmp}
use Rattle.std.specs.FinMap.{get}
use Rattle.std.proofs.lemmas.Cmp.{eq_by_cmp_equiv}
use Rattle.std.proofs.lemmas.List.Sorted.{IsPermutation-map, IsPermutation-trans, All-permutation, length_permutation}
use Rattle.std.proofs.lemmas.List.Sorted.{list_any-IsPermutation}
use Rattle.std.proofs.lemmas.Map.Keys.{IsDistinct-IsPermutation, IsDistinct-from_sorted}
use Rattle.std.proofs.lemmas.Map.Made.{length-le_from_is_member}
use Rattle.iocm_types.specs.declared.key.Key.{Key}
use Rattle.iocm_types.specs.Key.{key_cmp}
use Rattle.iocm_types.specs.KeyOrder.{keys_total, keys_exact}
use Rattle.iocm_model.specs.Machine.Record.{Rec, OnlineRecord, key_of, online}
use Rattle.iocm_model.specs.Machine.Configuration.{Configuration, IsKeyed}
use Rattle.iocm_model.specs.Change.Edit.{Action, modify, action_key, record_after}
use Rattle.iocm_model.specs.Change.Maps.{differing}
use Rattle.iocm_model.proofs.Machine.OwnKeys.{keyed_own}
use Rattle.iocm_model.proofs.Maps.Cells.{in_differing}
use Rattle.iocm_difference.specs.Same.{same_record}
use Rattle.iocm_difference.specs.Difference.{action_between, actions_between, difference}
use Rattle.iocm_difference.specs.Laws.{config_after_all, is_edited, DifferenceLeads, EditsEachKeyOnce, EditsWhatDiffers}
use Rattle.iocm_difference.specs.Laws.{DifferenceIsLeast, NothingDiffers, ModifiesNoPair}
use Rattle.iocm_difference.proofs.Between.{all_made, each_leaves, keys_between, edited_between, made_no_longer}
use Rattle.iocm_difference.proofs.Leading.{any_order_leads, get_unedited}
use Rattle.iocm_difference.proofs.Permuted.{passes_permute}
use Rattle.iocm_difference.proofs.Rising.{differing_rise}
use Rattle.iocm_difference.proofs.SameRecords.{own_record, not_differing, equal_are_same}

-- actions in another order edit the same keys
edited_same : (q : Key) (xs ys : List Action) → IsPermutation xs ys → is_edited q xs ≡ is_edited q ys
edited_same q xs ys permuted =
    list_any-IsPermutation (eq_by_cmp key_cmp q) (map action_key xs) (map action_key ys)
    (IsPermutation-map action_key xs ys permuted)

pub difference_leads : DifferenceLeads
difference_leads c d actions keyed permuted = any_order_leads actions c d (record {
  leave = All-permutation (λ a. record_after a ≡ get d (action_key a)) between actions same (each_leaves c d keyed);
  others = λ q none. not_differing (get c q) (get d q)
      (sym (edited_between c d q keyed) ∙ edited_same q between actions same ∙ none);
})
  where
    between : List Action
    between = actions_between c d

    same : IsPermutation (actions_between c d) actions
    same = IsPermutation-trans (actions_between c d) (difference c d) actions (passes_permute (actions_between c d))
        permuted

differing_apart : (c d : Configuration) → IsDistinct (eq_by_cmp key_cmp) (differing same_record c d)
differing_apart c d = IsDistinct-from_sorted key_cmp (differing same_record c d) (differing_rise c d)

pub edits_each_key_once : EditsEachKeyOnce
edits_each_key_once c d keyed =
    IsDistinct-IsPermutation (eq_by_cmp key_cmp) (λ x y. (eq_by_cmp_equiv keys_total).symm x y)
    (map action_key (actions_between c d)) (map action_key (difference c d))
    (IsPermutation-map action_key (actions_between c d) (difference c d) (passes_permute (actions_between c d)))
    (subst (IsDistinct (eq_by_cmp key_cmp)) (sym (keys_between c d keyed)) (differing_apart c d))

edited_by_difference : (c d : Configuration) (q : Key) → IsKeyed d
    → is_edited q (difference c d) ≡ not (option_eq same_record (get c q) (get d q))
edited_by_difference c d q keyed =
    sym (edited_same q (actions_between c d) (difference c d) (passes_permute (actions_between c d)))
    ∙ edited_between c d q keyed

pub edits_what_differs : EditsWhatDiffers
edits_what_differs c d q keyed = (
  λ none. not_differing (get c q) (get d q) (sym (edited_by_difference c d q keyed) ∙ none),
  λ same. edited_by_difference c d q keyed ∙ equal_are_same (get c q) (get d q) same,
)

must_edit : (b t : Bool) → t ≡ true → (b ≡ false → t ≡ false) → b ≡ true
must_edit true t is none = refl
must_edit false t is none = let bad : true ≡ false = sym is ∙ none refl in cc

-- actions that lead from one configuration to another edit each key at which they differ
all_edited : (c d : Configuration) (actions : List Action) → config_after_all actions c ≡ d → (q : Key)
    → list_any (eq_by_cmp key_cmp q) (differing same_record c d) ≡ true → is_edited q actions ≡ true
all_edited c d actions leads q is = must_edit (is_edited q actions)
    (list_any (eq_by_cmp key_cmp q) (differing same_record c d)) is
    (λ none. in_differing keys_total keys_exact same_record c d q
    ∙ equal_are_same (get c q) (get d q)
    (sym (get_unedited actions c q none) ∙ ap (λ (m : Configuration). get m q) leads))

same_length : (actions : List Action) → length (map action_key actions) ≡ length actions
same_length [] = refl
same_length (a ∷ actions) = omega (arith, same_length actions)

pub difference_is_least : DifferenceIsLeast
difference_is_least c d actions leads =
    let permuted : length (difference c d) ≡ length (actions_between c d) =
    length_permutation (actions_between c d) (difference c d) (passes_permute (actions_between c d)) in
    let made : length (actions_between c d) ≤ length (differing same_record c d) =
    made_no_longer (λ key. action_between key (get c key) (get d key)) (differing same_record c d) in
    let fewer : length (differing same_record c d) ≤ length (map action_key actions) =
    length-le_from_is_member (eq_by_cmp_equiv keys_total) (differing same_record c d) (map action_key actions)
    (differing_apart c d) (all_edited c d actions leads) in
    let mapped = same_length actions in
    omega (arith, permuted, made, fewer, mapped)

none_of : (actions : List Action) → length actions ≤ 0 → actions ≡ []
none_of [] h = refl
none_of (a ∷ actions) h = absurd (omega (arith, h))

pub nothing_differs : NothingDiffers
nothing_differs c = none_of (difference c c) (difference_is_least c c [] refl)

-- ---- online pairs

-- a record under the key of an online pair is the pair
pair_of_key : (old : Rec) (r : OnlineRecord) → key_of old ≡ key_of (online r) → old ≡ online r
pair_of_key (online s) r is =
    let css : s.css ≡ r.css = cc in let path : s.path ≡ r.path = cc in let name : s.name ≡ r.name = cc in
    λ i. online (record { css = css i; path = path i; name = name i })
pair_of_key _ r is = cc

is_no_modification : (t : Bool) (new : Rec) (x : Action) (r : OnlineRecord) → (new ≡ online r → t ≡ true)
    → cond t None (Some (modify new)) ≡ Some x
    → x ≡ modify (online r) → ⊥
is_no_modification true new x r same is modifies = cc
is_no_modification false new x r same is modifies =
    let pair : new ≡ online r = cc in let bad : false ≡ true = same pair in cc

never_modified : (k : Key) (a b : Option Rec) (x : Action) → ((r : Rec) → a ≡ Some r → key_of r ≡ k)
    → ((r : Rec) → b ≡ Some r → key_of r ≡ k)
    → action_between k a b ≡ Some x → (r : OnlineRecord) → x ≡ modify (online r) → ⊥
never_modified k None None x olds news is r modifies = cc
never_modified k None (Some new) x olds news is r modifies = cc
never_modified k (Some old) None x olds news is r modifies = cc
never_modified k (Some old) (Some new) x olds news is r modifies = is_no_modification (same_record old new) new x r
    (λ pair. ap (same_record old)
    (pair ∙ sym (pair_of_key old r (olds old refl ∙ sym (news new refl) ∙ ap key_of pair))) ∙ own_record old) is
    modifies

pub modifies_no_pair : ModifiesNoPair
modifies_no_pair c d keyed_old keyed_new =
    All-permutation (λ a. (r : OnlineRecord) → a ≡ modify (online r) → ⊥) (actions_between c d) (difference c d)
    (passes_permute (actions_between c d))
    (all_made (λ a. (r : OnlineRecord) → a ≡ modify (online r) → ⊥) (λ key. action_between key (get c key) (get d key))
    (λ k x is. never_modified k (get c k) (get d k) x (λ r h. keyed_own c keyed_old k r h)
    (λ r h. keyed_own d keyed_new k r h) is)
    (differing same_record c d))

-- The difference the other way round takes the actions of the difference back.
use Rattle.std.proofs.Common.{◌≡◌, Bool, true, false, not, cond, List, [], ◌∷◌, map, Option, Some, None, refl, sym, ap}
use Rattle.std.proofs.Common.{subst, ◌∙◌}
use Rattle.std.specs.List.{filter_map, cons_option}
use Rattle.std.specs.List.Sorted.{IsPermutation}
use Rattle.std.specs.Option.{option_eq, option_map}
use Rattle.std.specs.FinMap.{get}
use Rattle.std.proofs.lemmas.List.Sorted.{IsPermutation-map, IsPermutation-sym, IsPermutation-trans}
use Rattle.iocm_types.specs.declared.key.Key.{Key}
use Rattle.iocm_types.specs.KeyOrder.{keys_total, keys_exact}
use Rattle.iocm_model.specs.Machine.Record.{Rec, key_of}
use Rattle.iocm_model.specs.Machine.Configuration.{Configuration, IsKeyed}
use Rattle.iocm_model.specs.Change.Edit.{Action, modify}
use Rattle.iocm_model.specs.Change.Inverse.{action_back}
use Rattle.iocm_model.specs.Change.Maps.{differing}
use Rattle.iocm_model.proofs.Machine.OwnKeys.{keyed_own}
use Rattle.iocm_model.proofs.Maps.Cells.{in_differing}
use Rattle.iocm_difference.specs.Same.{same_record}
use Rattle.iocm_difference.specs.Difference.{action_between, actions_between, difference}
use Rattle.iocm_difference.specs.Laws.{back_in, DifferenceGoesBack}
use Rattle.iocm_difference.proofs.Permuted.{passes_permute}
use Rattle.iocm_difference.proofs.Rising.{differing_rise, same_members}
use Rattle.iocm_difference.proofs.SameRecords.{not_differing, equal_are_same}

both_ways : (t u : Bool) → (t ≡ false → u ≡ false) → (u ≡ false → t ≡ false) → t ≡ u
both_ways true true f g = refl
both_ways true false f g = g refl
both_ways false u f g = sym (f refl)

-- whether two records differ is the same the other way round
turned : (a b : Option Rec) → not (option_eq same_record a b) ≡ not (option_eq same_record b a)
turned a b = both_ways (not (option_eq same_record a b)) (not (option_eq same_record b a))
    (λ h. equal_are_same b a (sym (not_differing a b h))) (λ h. equal_are_same a b (sym (not_differing b a h)))

-- so are the keys at which two configurations differ
differing_turned : (c d : Configuration) → differing same_record c d ≡ differing same_record d c
differing_turned c d = same_members (differing same_record c d) (differing same_record d c) (differing_rise c d)
    (differing_rise d c)
    (λ q. in_differing keys_total keys_exact same_record c d q ∙ turned (get c q) (get d q)
    ∙ sym (in_differing keys_total keys_exact same_record d c q))

undo_not : (t u : Bool) → not t ≡ not u → t ≡ u
undo_not true true h = refl
undo_not true false h = cc
undo_not false true h = cc
undo_not false false h = refl

modified_back : (t : Bool) (c : Configuration) (k : Key) (old new : Rec) → get c k ≡ Some old → key_of new ≡ k
    → option_map (back_in c) (cond t None (Some (modify new))) ≡ cond t None (Some (modify old))
modified_back true c k old new was own = refl
modified_back false c k old new was own =
    ap Some (ap (λ q. action_back q (get c q) (Some new)) own ∙ ap (λ o. action_back k o (Some new)) was)

-- what takes back what leads from one record to another leads from the other to the one
back_at : (c : Configuration) (k : Key) (a b : Option Rec) → get c k ≡ a → ((r : Rec) → b ≡ Some r → key_of r ≡ k)
    → option_map (back_in c) (action_between k a b) ≡ action_between k b a
back_at c k None None was own = refl
back_at c k None (Some new) was own =
    ap Some (ap (λ q. action_back q (get c q) (Some new)) (own new refl) ∙ ap (λ o. action_back k o (Some new)) was)
back_at c k (Some old) None was own = ap Some (ap (λ o. action_back k o None) was)
back_at c k (Some old) (Some new) was own = modified_back (same_record old new) c k old new was (own new refl)
    ∙ ap (λ t. cond t None (Some (modify old)))
    (undo_not (same_record old new) (same_record new old) (turned (Some old) (Some new)))

each_back : (f : Action → Action) (o : Option Action) (rest : List Action)
    → map f (cons_option o rest) ≡ cons_option (option_map f o) (map f rest)
each_back f None rest = refl
each_back f (Some x) rest = refl

all_back : (f : Action → Action) (h j : Key → Option Action) → ((k : Key) → option_map f (h k) ≡ j k) → (ks : List Key)
    → map f (filter_map h ks) ≡ filter_map j ks
all_back f h j each [] = refl
all_back f h j each (k ∷ ks) =
    each_back f (h k) (filter_map h ks) ∙ (λ i. cons_option (each k i) (all_back f h j each ks i))

actions_back : (c d : Configuration) → IsKeyed d → map (back_in c) (actions_between c d) ≡ actions_between d c
actions_back c d keyed =
    all_back (back_in c) (λ key. action_between key (get c key) (get d key))
    (λ key. action_between key (get d key) (get c key))
    (λ k. back_at c k (get c k) (get d k) refl (λ r h. keyed_own d keyed k r h)) (differing same_record c d)
    ∙ ap (filter_map (λ key. action_between key (get d key) (get c key))) (differing_turned c d)

pub difference_goes_back : DifferenceGoesBack
difference_goes_back c d keyed = IsPermutation-trans (map (back_in c) (difference c d)) (actions_between d c)
    (difference d c)
    (subst (IsPermutation (map (back_in c) (difference c d))) (actions_back c d keyed)
    (IsPermutation-sym (map (back_in c) (actions_between c d)) (map (back_in c) (difference c d))
    (IsPermutation-map (back_in c) (actions_between c d) (difference c d) (passes_permute (actions_between c d)))))
    (passes_permute (actions_between d c))

-- The pairs of two lists of rows in order: they stand in order, and each key has there what each
-- list has.
use Rattle.std.proofs.Common.{◌≡◌, Bool, true, false, cond, not, ◌||◌, List, [], ◌∷◌, ◌++◌, map, filter, Option, Some}
use Rattle.std.proofs.Common.{None, is_some, T, refl, sym, ap, subst, ◌∙◌}
use Rattle.std.specs.List.{filter_map, cons_option, list_any}
use Rattle.std.specs.Option.{option_eq, option_or}
use Rattle.std.specs.Ordering.{is_lt, eq_by_cmp, ordering_reverse}
use Rattle.std.specs.declared.cmp.Ordering.{Ordering}
use Rattle.std.specs.declared.cmp.Ordering.TheVariants.{Less, Equal, Greater}
use Rattle.std.specs.FinMap.{get, entries, entries_sorted, keys, from_entries, get-entries, get-from_entries}
use Rattle.std.specs.FinMap.{contains_key-keys}
use Rattle.std.specs.FinMap.Entries.{by_order, find, is_sorted, below_all, same_entries}
use Rattle.iocm_types.specs.declared.key.Key.{Key}
use Rattle.iocm_types.specs.Key.{key_cmp}
use Rattle.iocm_types.specs.KeyOrder.{keys_total, keys_exact}
use Rattle.iocm_types.proofs.Entries.{not_found}
use Rattle.iocm_types.proofs.Found.{same_key}
use Rattle.iocm_types.proofs.Orderings.{less_is}
use Rattle.iocm_types.proofs.Parts.{find_append}
use Rattle.iocm_types.proofs.Tests.{first_holds, second_holds, both_hold}
use Rattle.iocm_model.specs.Machine.Record.{Rec}
use Rattle.iocm_model.specs.Machine.Configuration.{Configuration}
use Rattle.iocm_model.specs.Change.Edit.{Action, modify}
use Rattle.iocm_difference.specs.Same.{same_record}
use Rattle.iocm_difference.specs.Difference.{action_between, actions_between}
use Rattle.iocm_difference.specs.Walks.{action_at, Row, Pair, old_row, new_row, pairs_from, pairs_of}

-- ---- keys below others

less_holds : (r : Ordering) → r ≡ Less → T (is_lt r)
less_holds r is = subst (λ o. T (is_lt o)) (sym is) tt

turned : (k q : Key) → key_cmp k q ≡ Greater → key_cmp q k ≡ Less
turned k q is = keys_total.antisymm q k ∙ ap ordering_reverse is

below_less : (k q : Key) (es : List Row) → key_cmp k q ≡ Less → T (below_all key_cmp q es) → T (below_all key_cmp k es)
below_less k q [] is low = tt
below_less k q (e ∷ es) is low = both_hold (is_lt (key_cmp k e.0)) (below_all key_cmp k es)
    (less_holds _ (keys_total.trans k q e.0 is (less_is _ (first_holds _ _ low))))
    (below_less k q es is (second_holds _ _ low))

below_tied : (k q : Key) (es : List Row) → key_cmp k q ≡ Equal → T (below_all key_cmp q es) → T (below_all key_cmp k es)
below_tied k q es is low = subst (λ x. T (below_all key_cmp x es)) (sym (keys_exact k q is)) low

-- a key below a row and those after it, where it is below the row
below_row : (k : Key) (e : Row) (es : List Row) → key_cmp k e.0 ≡ Less → T (below_all key_cmp e.0 es)
    → T (below_all key_cmp k (e ∷ es))
below_row k e es is low =
    both_hold (is_lt (key_cmp k e.0)) (below_all key_cmp k es) (less_holds _ is) (below_less k e.0 es is low)

below_new : (k : Key) (fs : List Row) → T (below_all key_cmp k fs) → T (below_all key_cmp k (map new_row fs))
below_new k [] low = tt
below_new k (f ∷ fs) low =
    both_hold (is_lt (key_cmp k f.0)) (below_all key_cmp k (map new_row fs)) (first_holds _ _ low)
    (below_new k fs (second_holds _ _ low))

below_by : (k : Key) (e f : Row) (rest : List Row → List Pair) (fs : List Row) (o : Ordering)
    → T (is_lt (key_cmp k e.0)) → T (is_lt (key_cmp k f.0))
    → T (below_all key_cmp k (rest (f ∷ fs))) → T (below_all key_cmp k (rest fs))
    → T (below_all key_cmp k (pairs_from e rest fs))
    → T (below_all key_cmp k
    (by_order o (old_row e ∷ rest (f ∷ fs)) ((e.0, (Some e.1, Some f.1)) ∷ rest fs)
    (new_row f ∷ pairs_from e rest fs)))
below_by k e f rest fs Less first second both alone more =
    both_hold (is_lt (key_cmp k e.0)) (below_all key_cmp k (rest (f ∷ fs))) first both
below_by k e f rest fs Equal first second both alone more =
    both_hold (is_lt (key_cmp k e.0)) (below_all key_cmp k (rest fs)) first alone
below_by k e f rest fs Greater first second both alone more =
    both_hold (is_lt (key_cmp k f.0)) (below_all key_cmp k (pairs_from e rest fs)) second more

below_from : (k : Key) (e : Row) (rest : List Row → List Pair)
    → ((gs : List Row) → T (below_all key_cmp k gs) → T (below_all key_cmp k (rest gs)))
    → (fs : List Row) → T (is_lt (key_cmp k e.0)) → T (below_all key_cmp k fs)
    → T (below_all key_cmp k (pairs_from e rest fs))
below_from k e rest below [] first low =
    both_hold (is_lt (key_cmp k e.0)) (below_all key_cmp k (rest [])) first (below [] tt)
below_from k e rest below (f ∷ fs) first low =
    below_by k e f rest fs (key_cmp e.0 f.0) first (first_holds _ _ low) (below (f ∷ fs) low)
    (below fs (second_holds _ _ low))
    (below_from k e rest below fs first (second_holds _ _ low))

-- a key below all rows of both is below their pairs
below_pairs : (k : Key) (es fs : List Row) → T (below_all key_cmp k es) → T (below_all key_cmp k fs)
    → T (below_all key_cmp k (pairs_of es fs))
below_pairs k [] fs none low = below_new k fs low
below_pairs k (e ∷ es) fs lower low =
    below_from k e (pairs_of es) (λ gs h. below_pairs k es gs (second_holds _ _ lower) h) fs (first_holds _ _ lower) low

-- ---- the pairs stand in order

sorted_new : (fs : List Row) → T (is_sorted key_cmp fs) → T (is_sorted key_cmp (map new_row fs))
sorted_new [] up = tt
sorted_new (f ∷ fs) up = both_hold (below_all key_cmp f.0 (map new_row fs)) (is_sorted key_cmp (map new_row fs))
    (below_new f.0 fs (first_holds _ _ up)) (sorted_new fs (second_holds _ _ up))

sorted_by : (e f : Row) (es fs : List Row) (o : Ordering) → key_cmp e.0 f.0 ≡ o → T (below_all key_cmp e.0 es)
    → T (below_all key_cmp f.0 fs)
    → T (is_sorted key_cmp (pairs_of es (f ∷ fs))) → T (is_sorted key_cmp (pairs_of es fs))
    → T (is_sorted key_cmp (pairs_of (e ∷ es) fs))
    → T (is_sorted key_cmp (by_order o (old_row e ∷ pairs_of es (f ∷ fs)) ((e.0, (Some e.1, Some f.1)) ∷ pairs_of es fs)
    (new_row f ∷ pairs_of (e ∷ es) fs)))
sorted_by e f es fs Less is low lower both alone more = both_hold (below_all key_cmp e.0 (pairs_of es (f ∷ fs)))
    (is_sorted key_cmp (pairs_of es (f ∷ fs)))
    (below_pairs e.0 es (f ∷ fs) low (below_row e.0 f fs is lower)) both
sorted_by e f es fs Equal is low lower both alone more = both_hold (below_all key_cmp e.0 (pairs_of es fs))
    (is_sorted key_cmp (pairs_of es fs))
    (below_pairs e.0 es fs low (below_tied e.0 f.0 fs is lower)) alone
sorted_by e f es fs Greater is low lower both alone more = both_hold (below_all key_cmp f.0 (pairs_of (e ∷ es) fs))
    (is_sorted key_cmp (pairs_of (e ∷ es) fs))
    (below_pairs f.0 (e ∷ es) fs (below_row f.0 e es (turned e.0 f.0 is) low) lower) more

sorted_from : (e : Row) (es : List Row) → T (below_all key_cmp e.0 es)
    → ((gs : List Row) → T (is_sorted key_cmp gs) → T (is_sorted key_cmp (pairs_of es gs)))
    → (fs : List Row) → T (is_sorted key_cmp fs) → T (is_sorted key_cmp (pairs_of (e ∷ es) fs))
sorted_from e es low sorted [] up =
    both_hold (below_all key_cmp e.0 (pairs_of es [])) (is_sorted key_cmp (pairs_of es []))
    (below_pairs e.0 es [] low tt) (sorted [] tt)
sorted_from e es low sorted (f ∷ fs) up =
    sorted_by e f es fs (key_cmp e.0 f.0) refl low (first_holds _ _ up) (sorted (f ∷ fs) up)
    (sorted fs (second_holds _ _ up))
    (sorted_from e es low sorted fs (second_holds _ _ up))

sorted_pairs : (es fs : List Row) → T (is_sorted key_cmp es) → T (is_sorted key_cmp fs)
    → T (is_sorted key_cmp (pairs_of es fs))
sorted_pairs [] fs none up = sorted_new fs up
sorted_pairs (e ∷ es) fs rise up =
    sorted_from e es (first_holds _ _ rise) (λ gs h. sorted_pairs es gs (second_holds _ _ rise) h) fs up

-- ---- what is found among the pairs

-- what two lists have at a key, if one of them has it
abbrev pub both_there : Option Rec → Option Rec → Option (Option Rec × Option Rec)
both_there a b = cond (is_some (option_or a b)) (Some (a, b)) None

old_alone : (t : Bool) (x : Rec) (a b : Option Rec) → (t ≡ true → b ≡ None)
    → cond t (Some (Some x, None)) (both_there a b) ≡ both_there (cond t (Some x) a) b
old_alone true x a b none = ap (λ o. Some (Some x, o)) (sym (none refl))
old_alone false x a b none = refl

both_have : (t u : Bool) (x y : Rec) (a b : Option Rec) → t ≡ u
    → cond t (Some (Some x, Some y)) (both_there a b) ≡ both_there (cond t (Some x) a) (cond u (Some y) b)
both_have true true x y a b same = refl
both_have true false x y a b same = cc
both_have false true x y a b same = cc
both_have false false x y a b same = refl

new_alone : (t : Bool) (y : Rec) (a b : Option Rec) → (t ≡ true → a ≡ None)
    → cond t (Some (None, Some y)) (both_there a b) ≡ both_there a (cond t (Some y) b)
new_alone true y a b none = ap (λ o. both_there o (Some y)) (sym (none refl))
new_alone false y a b none = refl

find_new : (q : Key) (fs : List Row) → find key_cmp q (map new_row fs) ≡ both_there None (find key_cmp q fs)
find_new q [] = refl
find_new q (f ∷ fs) = ap (cond (eq_by_cmp key_cmp q f.0) (Some (None, Some f.1))) (find_new q fs)
    ∙ new_alone (eq_by_cmp key_cmp q f.0) f.1 None (find key_cmp q fs) (λ h. refl)

-- a key that ties with one below all isn't found
not_below : (q k : Key) (es : List Row) → T (below_all key_cmp k es) → eq_by_cmp key_cmp q k ≡ true
    → find key_cmp q es ≡ None
not_below q k es low same =
    ap (λ x. find key_cmp x es) (same_key key_cmp keys_exact q k same) ∙ not_found key_cmp k es low

find_by : (q : Key) (e f : Row) (es fs : List Row) (o : Ordering) → key_cmp e.0 f.0 ≡ o → T (below_all key_cmp e.0 es)
    → T (below_all key_cmp f.0 fs)
    → find key_cmp q (pairs_of es (f ∷ fs)) ≡ both_there (find key_cmp q es) (find key_cmp q (f ∷ fs))
    → find key_cmp q (pairs_of es fs) ≡ both_there (find key_cmp q es) (find key_cmp q fs)
    → find key_cmp q (pairs_of (e ∷ es) fs) ≡ both_there (find key_cmp q (e ∷ es)) (find key_cmp q fs)
    → find key_cmp q (by_order o (old_row e ∷ pairs_of es (f ∷ fs)) ((e.0, (Some e.1, Some f.1)) ∷ pairs_of es fs)
    (new_row f ∷ pairs_of (e ∷ es) fs))
    ≡ both_there (find key_cmp q (e ∷ es)) (find key_cmp q (f ∷ fs))
find_by q e f es fs Less is low lower both alone more =
    ap (cond (eq_by_cmp key_cmp q e.0) (Some (Some e.1, None))) both
    ∙ old_alone (eq_by_cmp key_cmp q e.0) e.1 (find key_cmp q es) (find key_cmp q (f ∷ fs))
    (not_below q e.0 (f ∷ fs) (below_row e.0 f fs is lower))
find_by q e f es fs Equal is low lower both alone more =
    ap (cond (eq_by_cmp key_cmp q e.0) (Some (Some e.1, Some f.1))) alone
    ∙ both_have (eq_by_cmp key_cmp q e.0) (eq_by_cmp key_cmp q f.0) e.1 f.1 (find key_cmp q es) (find key_cmp q fs)
    (ap (eq_by_cmp key_cmp q) (keys_exact e.0 f.0 is))
find_by q e f es fs Greater is low lower both alone more =
    ap (cond (eq_by_cmp key_cmp q f.0) (Some (None, Some f.1))) more
    ∙ new_alone (eq_by_cmp key_cmp q f.0) f.1 (find key_cmp q (e ∷ es)) (find key_cmp q fs)
    (not_below q f.0 (e ∷ es) (below_row f.0 e es (turned e.0 f.0 is) low))

find_from : (q : Key) (e : Row) (es : List Row) → T (below_all key_cmp e.0 es)
    → ((gs : List Row) → T (is_sorted key_cmp gs)
    → find key_cmp q (pairs_of es gs) ≡ both_there (find key_cmp q es) (find key_cmp q gs))
    → (fs : List Row) → T (is_sorted key_cmp fs)
    → find key_cmp q (pairs_of (e ∷ es) fs) ≡ both_there (find key_cmp q (e ∷ es)) (find key_cmp q fs)
find_from q e es low found [] up = ap (cond (eq_by_cmp key_cmp q e.0) (Some (Some e.1, None))) (found [] tt)
    ∙ old_alone (eq_by_cmp key_cmp q e.0) e.1 (find key_cmp q es) None (λ h. refl)
find_from q e es low found (f ∷ fs) up =
    find_by q e f es fs (key_cmp e.0 f.0) refl low (first_holds _ _ up) (found (f ∷ fs) up)
    (found fs (second_holds _ _ up))
    (find_from q e es low found fs (second_holds _ _ up))

find_pairs : (q : Key) (es fs : List Row) → T (is_sorted key_cmp es) → T (is_sorted key_cmp fs)
    → find key_cmp q (pairs_of es fs) ≡ both_there (find key_cmp q es) (find key_cmp q fs)
find_pairs q [] fs none up = find_new q fs
find_pairs q (e ∷ es) fs rise up =
    find_from q e es (first_holds _ _ rise) (λ gs h. find_pairs q es gs (second_holds _ _ rise) h) fs up

-- ---- the pairs of two configurations

abbrev pub has_at : Configuration → Configuration → Key → Option Rec × Option Rec
has_at c d key = (get c key, get d key)

-- the keys that one of them has, or both
abbrev pub keys_of_both : Configuration → Configuration → List Key
keys_of_both c d = keys (from_entries {R = key_cmp} (entries c ++ entries d))

below_made : (g : Key → Option Rec × Option Rec) (k : Key) (es : List Row) → T (below_all key_cmp k es)
    → T (below_all key_cmp k (map (λ key. (key, g key)) (map (λ (e : Row). e.0) es)))
below_made g k [] low = tt
below_made g k (e ∷ es) low = both_hold (is_lt (key_cmp k e.0))
    (below_all key_cmp k (map (λ key. (key, g key)) (map (λ (e : Row). e.0) es)))
    (first_holds _ _ low) (below_made g k es (second_holds _ _ low))

sorted_made : (g : Key → Option Rec × Option Rec) (es : List Row) → T (is_sorted key_cmp es)
    → T (is_sorted key_cmp (map (λ key. (key, g key)) (map (λ (e : Row). e.0) es)))
sorted_made g [] up = tt
sorted_made g (e ∷ es) up =
    both_hold (below_all key_cmp e.0 (map (λ key. (key, g key)) (map (λ (f : Row). f.0) es)))
    (is_sorted key_cmp (map (λ key. (key, g key)) (map (λ (f : Row). f.0) es)))
    (below_made g e.0 es (first_holds _ _ up)) (sorted_made g es (second_holds _ _ up))

made_by : (g : Key → Option Rec × Option Rec) (q k : Key) (b : Bool) (rest : Bool) → eq_by_cmp key_cmp q k ≡ b
    → cond b (Some (g k)) (cond rest (Some (g q)) None) ≡ cond (b || rest) (Some (g q)) None
made_by g q k true rest is = ap (λ x. Some (g x)) (sym (same_key key_cmp keys_exact q k is))
made_by g q k false rest is = refl

find_made : (g : Key → Option Rec × Option Rec) (q : Key) (ks : List Key)
    → find key_cmp q (map (λ key. (key, g key)) ks) ≡ cond (list_any (eq_by_cmp key_cmp q) ks) (Some (g q)) None
find_made g q [] = refl
find_made g q (k ∷ ks) = ap (cond (eq_by_cmp key_cmp q k) (Some (g k))) (find_made g q ks)
    ∙ made_by g q k (eq_by_cmp key_cmp q k) (list_any (eq_by_cmp key_cmp q) ks) refl

-- a key is one of those that one has, or both, where one of them has it
pub there_in_both : (c d : Configuration) (q : Key)
    → list_any (eq_by_cmp key_cmp q) (keys_of_both c d) ≡ is_some (option_or (get c q) (get d q))
there_in_both c d q = sym (contains_key-keys (from_entries {R = key_cmp} (entries c ++ entries d)) q)
    ∙ ap is_some (get-from_entries keys_total (entries c ++ entries d) q ∙ find_append key_cmp q (entries c) (entries d)
    ∙ (λ i. option_or (sym (get-entries c q) i) (sym (get-entries d q) i)))

-- the pairs are these keys, each with what each configuration has there
pub pairs_listed : (c d : Configuration)
    → pairs_of (entries c) (entries d) ≡ map (λ key. (key, has_at c d key)) (keys_of_both c d)
pairs_listed c d = same_entries key_cmp keys_total keys_exact _ _
    (sorted_pairs (entries c) (entries d) (entries_sorted c) (entries_sorted d))
    (sorted_made (has_at c d) (entries both) (entries_sorted both))
    (λ q. find_pairs q (entries c) (entries d) (entries_sorted c) (entries_sorted d)
    ∙ (λ i. both_there (sym (get-entries c q) i) (sym (get-entries d q) i))
    ∙ ap (λ b. cond b (Some (has_at c d q)) None) (sym (there_in_both c d q))
    ∙ sym (find_made (has_at c d) q (keys_of_both c d)))
  where
    both : Configuration
    both = from_entries (entries c ++ entries d)

-- ---- the actions of the pairs

each_pair : (g : Key → Option Rec × Option Rec) (ks : List Key)
    → filter_map action_at (map (λ key. (key, g key)) ks)
    ≡ filter_map (λ key. action_between key (g key).0 (g key).1) ks
each_pair g [] = refl
each_pair g (k ∷ ks) = ap (cons_option (action_between k (g k).0 (g k).1)) (each_pair g ks)

nothing_by : (t : Bool) (new : Rec) → not t ≡ false → ◌≡◌ {A = Option Action} (cond t None (Some (modify new))) None
nothing_by true new same = refl
nothing_by false new same = cc

-- nothing is done where both have the same
pub nothing_between : (k : Key) (a b : Option Rec) → not (option_eq same_record a b) ≡ false
    → action_between k a b ≡ None
nothing_between k None None same = refl
nothing_between k None (Some new) same = cc
nothing_between k (Some old) None same = cc
nothing_between k (Some old) (Some new) same = nothing_by (same_record old new) new same

left_out : (h : Key → Option Action) (k : Key) (b : Bool) (ks : List Key) → (b ≡ false → h k ≡ None)
    → filter_map h (cond b (k ∷ ks) ks) ≡ cons_option (h k) (filter_map h ks)
left_out h k true ks none = refl
left_out h k false ks none = ap (λ o. cons_option o (filter_map h ks)) (sym (none refl))

kept_alone : (p : Key → Bool) (h : Key → Option Action) → ((k : Key) → p k ≡ false → h k ≡ None) → (ks : List Key)
    → filter_map h (filter p ks) ≡ filter_map h ks
kept_alone p h none [] = refl
kept_alone p h none (k ∷ ks) =
    left_out h k (p k) (filter p ks) (none k) ∙ ap (cons_option (h k)) (kept_alone p h none ks)

-- the actions of all pairs are those between the configurations
pub actions_listed : (c d : Configuration)
    → filter_map action_at (pairs_of (entries c) (entries d)) ≡ actions_between c d
actions_listed c d = ap (filter_map action_at) (pairs_listed c d) ∙ each_pair (has_at c d) (keys_of_both c d)
    ∙ sym (kept_alone (λ key. not (option_eq same_record (get c key) (get d key)))
    (λ key. action_between key (get c key) (get d key))
    (λ key same. nothing_between key (get c key) (get d key) same) (keys_of_both c d))

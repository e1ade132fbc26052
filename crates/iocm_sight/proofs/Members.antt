-- Keys in order, each once, that are those of the records of a configuration that pass a test, are the
-- list of these.
use Rattle.std.proofs.Common.{◌≡◌, Bool, true, false, cond, ◌&&◌, ◌||◌, Option, None, Some, is_some, List, [], ◌∷◌, T}
use Rattle.std.proofs.Common.{map, filter, refl, sym, ap, subst, ◌∙◌}
use Rattle.std.specs.List.{list_any, AllByRecursion}
use Rattle.std.specs.List.Sorted.{IsStrictlySortedBy}
use Rattle.std.proofs.lemmas.Bool.{and_parts}
use Rattle.std.specs.Cmp.Derive.{both_true}
use Rattle.std.specs.Map.{keys_of}
use Rattle.std.specs.Ordering.{eq_by_cmp}
use Rattle.std.specs.declared.cmp.Ordering.TheVariants.{Less}
use Rattle.std.specs.FinMap.{entries, entries_sorted, entries-from_sorted, from_sorted, get, get-from_sorted}
use Rattle.std.specs.FinMap.{is_sorted, same_map}
use Rattle.std.specs.FinMap.Entries.{is_some-find}
use Rattle.iocm_types.specs.declared.key.Key.{Key}
use Rattle.iocm_types.specs.Key.{key_cmp}
use Rattle.iocm_types.specs.KeyOrder.{keys_total, keys_exact}
use Rattle.iocm_types.proofs.Found.{same_key, ties_itself}
use Rattle.iocm_types.proofs.InOrder.{rows_sorted, keys_rise}
use Rattle.iocm_model.specs.Machine.Record.{Rec, key_of}
use Rattle.iocm_model.specs.Machine.Configuration.{Configuration, IsKeyed, lookup_of, records_of, with_keys}
use Rattle.iocm_model.proofs.Machine.OwnKeys.{keyed_own}
use Rattle.iocm_lookup.proofs.Members.{record_found, record_there, same_tests}

-- ---- keys in order with the same members

abbrev as_row : Key → Key × Unit {0}
as_row k = (k, tt)

keys_back : (ks : List Key) → keys_of (map as_row ks) ≡ ks
keys_back [] = refl
keys_back (k ∷ ks) = ap (λ qs. k ∷ qs) (keys_back ks)

in_order : (ks : List Key) → IsStrictlySortedBy key_cmp ks → T (is_sorted key_cmp (map as_row ks))
in_order ks rise =
    rows_sorted key_cmp (map as_row ks) (subst (IsStrictlySortedBy key_cmp) (sym (keys_back ks)) rise)

alike : (a b : Option (Unit {0})) → is_some a ≡ is_some b → a ≡ b
alike None None e = refl
alike None (Some y) e = cc
alike (Some x) None e = cc
alike (Some x) (Some y) e = refl

there : (ks : List Key) → IsStrictlySortedBy key_cmp ks → (q : Key)
    → is_some (get (from_sorted {R = key_cmp} (map as_row ks)) q) ≡ list_any (eq_by_cmp key_cmp q) ks
there ks rise q = ap is_some (get-from_sorted key_cmp (map as_row ks) q (in_order ks rise))
    ∙ is_some-find key_cmp q (map as_row ks) ∙ ap (list_any (eq_by_cmp key_cmp q)) (keys_back ks)

same_keys : (ks qs : List Key) → IsStrictlySortedBy key_cmp ks → IsStrictlySortedBy key_cmp qs
    → ((k : Key) → list_any (eq_by_cmp key_cmp k) ks ≡ list_any (eq_by_cmp key_cmp k) qs) → ks ≡ qs
same_keys ks qs rise others_rise same =
    let maps : from_sorted {R = key_cmp} (map as_row ks) ≡ from_sorted {R = key_cmp} (map as_row qs) =
    same_map keys_total keys_exact _ _
    (λ k. alike _ _ (there ks rise k ∙ same k ∙ sym (there qs others_rise k))) in
    let rows : map as_row ks ≡ map as_row qs =
    sym (entries-from_sorted key_cmp (map as_row ks) (in_order ks rise)) ∙ ap entries maps
    ∙ entries-from_sorted key_cmp (map as_row qs) (in_order qs others_rise) in
    sym (keys_back ks) ∙ ap keys_of rows ∙ keys_back qs

-- ---- the keys of records in order

own_keys : (rs : List Rec) → keys_of (with_keys rs) ≡ map key_of rs
own_keys [] = refl
own_keys (r ∷ rs) = ap (λ ks. key_of r ∷ ks) (own_keys rs)

records_rise : (c : Configuration) → IsKeyed c → IsStrictlySortedBy key_cmp (map key_of (records_of c))
records_rise c keyed = subst (IsStrictlySortedBy key_cmp) (ap keys_of keyed ∙ own_keys (records_of c))
    (keys_rise key_cmp (entries c) (entries_sorted c))

-- a test of what is found, if something is
abbrev pub passes : (Rec → Bool) → Option Rec → Bool
passes test None = false
passes test (Some r) = test r

module _ (test : Rec → Bool) where
  below_by : (k : Key) (r : Rec) (rs : List Rec) (b : Bool) → key_cmp k (key_of r) ≡ Less
      → AllByRecursion (λ q. key_cmp k q ≡ Less) (map key_of (filter test rs))
      → AllByRecursion (λ q. key_cmp k q ≡ Less) (map key_of (cond b (r ∷ filter test rs) (filter test rs)))
  below_by k r rs true less rest = (less, rest)
  below_by k r rs false less rest = rest

  below_kept : (k : Key) (rs : List Rec) → AllByRecursion (λ q. key_cmp k q ≡ Less) (map key_of rs)
      → AllByRecursion (λ q. key_cmp k q ≡ Less) (map key_of (filter test rs))
  below_kept k [] all = tt
  below_kept k (r ∷ rs) all = below_by k r rs (test r) all.0 (below_kept k rs all.1)

  rise_by : (r : Rec) (rs : List Rec) (b : Bool)
      → AllByRecursion (λ q. key_cmp (key_of r) q ≡ Less) (map key_of (filter test rs))
      → IsStrictlySortedBy key_cmp (map key_of (filter test rs))
      → IsStrictlySortedBy key_cmp (map key_of (cond b (r ∷ filter test rs) (filter test rs)))
  unfolding IsStrictlySortedBy
  rise_by r rs true below rest = (below, rest)
  rise_by r rs false below rest = rest

  -- the keys of those that pass rise
  kept_rise : (rs : List Rec) → IsStrictlySortedBy key_cmp (map key_of rs)
      → IsStrictlySortedBy key_cmp (map key_of (filter test rs))
  unfolding IsStrictlySortedBy
  kept_rise [] rise = tt
  kept_rise (r ∷ rs) rise = rise_by r rs (test r) (below_kept (key_of r) rs rise.0) (kept_rise rs rise.1)

  -- a record that passes, of this key
  abbrev is_it : Key → Rec → Bool
  is_it k r = test r && eq_by_cmp key_cmp k (key_of r)

  kept_by : (k : Key) (r : Rec) (rs : List Rec) (b : Bool)
      → list_any (eq_by_cmp key_cmp k) (map key_of (filter test rs)) ≡ list_any (is_it k) rs
      → list_any (eq_by_cmp key_cmp k) (map key_of (cond b (r ∷ filter test rs) (filter test rs)))
      ≡ ((b && eq_by_cmp key_cmp k (key_of r)) || list_any (is_it k) rs)
  kept_by k r rs true rest = ap (λ b. eq_by_cmp key_cmp k (key_of r) || b) rest
  kept_by k r rs false rest = rest

  kept_any : (k : Key) (rs : List Rec)
      → list_any (eq_by_cmp key_cmp k) (map key_of (filter test rs)) ≡ list_any (is_it k) rs
  kept_any k [] = refl
  kept_any k (r ∷ rs) = kept_by k r rs (test r) (kept_any k rs)

  module _ (c : Configuration) (keyed : IsKeyed c) where
    found : (k : Key) → list_any (is_it k) (records_of c) ≡ true → passes test (lookup_of c k) ≡ true
    found k any =
        let it = record_found c (is_it k) keyed any in
        let parts = and_parts (test it.member) (eq_by_cmp key_cmp k (key_of it.member)) it.passes in
        let own : k ≡ key_of it.member = same_key key_cmp keys_exact k (key_of it.member) parts.1 in
        ap (λ q. passes test (lookup_of c q)) own ∙ ap (passes test) it.there ∙ parts.0

    back_by : (k : Key) (o : Option Rec) → lookup_of c k ≡ o → passes test o ≡ true
        → list_any (is_it k) (records_of c) ≡ true
    back_by k None is pass = cc
    back_by k (Some r) is pass = record_there c (is_it k) k r is (both_true pass
        (ap (eq_by_cmp key_cmp k) (keyed_own c keyed k r is) ∙ ties_itself key_cmp keys_total k))

    -- a key is among theirs if the record under it passes
    members : (k : Key) → list_any (eq_by_cmp key_cmp k) (map key_of (filter test (records_of c)))
        ≡ passes test (lookup_of c k)
    members k = kept_any k (records_of c)
        ∙ same_tests _ _ (found k) (λ pass. back_by k (lookup_of c k) refl pass)

    pub kept_keys : (ks : List Key) → IsStrictlySortedBy key_cmp ks
        → ((k : Key) → list_any (eq_by_cmp key_cmp k) ks ≡ passes test (lookup_of c k))
        → ks ≡ map key_of (filter test (records_of c))
    kept_keys ks rise same = same_keys ks (map key_of (filter test (records_of c))) rise
        (kept_rise (records_of c) (records_rise c keyed)) (λ k. same k ∙ sym (members k))

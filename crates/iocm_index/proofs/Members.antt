-- The users of a thing: who they are, and that each comes once and in order; and that a set is its
-- namings.
use Rattle.std.proofs.Common.{◌≡◌, Option, None, Some, is_some, T, ◌||◌, cond, [], ◌∷◌, map, filter, refl, sym, ap, ◌∙◌}
use Rattle.std.specs.List.{AllByRecursion, list_any}
use Rattle.std.specs.List.Sorted.{IsStrictlySortedBy}
use Rattle.std.specs.Ordering.{is_eq, eq_by_cmp, ordering_then}
use Rattle.std.specs.declared.cmp.Ordering.{Ordering}
use Rattle.std.specs.declared.cmp.Ordering.TheVariants.{Less, Equal, Greater}
use Rattle.std.specs.FinMap.Entries.{below_all, is_sorted}
use Rattle.std.specs.FinMap.{entries, entries_sorted, get, contains_key, contains_key-keys, same_map}
use Rattle.iocm_types.specs.declared.key.Key.{Key}
use Rattle.iocm_types.specs.declared.named.Named.{Named}
use Rattle.iocm_types.specs.declared.naming.Naming.{Naming}
use Rattle.iocm_types.specs.Key.{key_cmp}
use Rattle.iocm_types.specs.KeyOrder.{namings_exact}
use Rattle.iocm_types.specs.Naming.{named_cmp, naming_cmp}
use Rattle.iocm_types.proofs.Orderings.{less_is}
use Rattle.iocm_types.proofs.Tests.{first_holds, second_holds}
use Rattle.iocm_index.specs.Namings.{naming, Namings, users_in}
use Rattle.iocm_index.proofs.Front.{Listed, named_total, namings_total, is_of, users}

module _ (named : Named) where
  -- one more naming, by whether it is of the thing
  user_at : (k : Key) (e : Naming × Unit {0}) (us es : Listed) (r : Ordering)
      → list_any (eq_by_cmp key_cmp k) (map (λ f. f.0.user) us)
      ≡ list_any (eq_by_cmp naming_cmp (naming k named)) (map (λ f. f.0) es)
      → list_any (eq_by_cmp key_cmp k) (map (λ f. f.0.user) (cond (is_eq r) (e ∷ us) us))
      ≡ (is_eq (ordering_then r (key_cmp k e.0.user))
      || list_any (eq_by_cmp naming_cmp (naming k named)) (map (λ f. f.0) es))
  user_at k e us es Less same = same
  user_at k e us es Equal same = ap (λ b. eq_by_cmp key_cmp k e.0.user || b) same
  user_at k e us es Greater same = same

  -- a key is among the users exactly where it names the thing
  user_of : (k : Key) (es : Listed)
      → list_any (eq_by_cmp key_cmp k) (users named es)
      ≡ list_any (eq_by_cmp naming_cmp (naming k named)) (map (λ f. f.0) es)
  user_of k [] = refl
  user_of k (e ∷ es) = user_at k e (filter (is_of named) es) es (named_cmp named e.0.named) (user_of k es)

  -- the users after a naming of the thing are after its user
  later_at : (n : Naming) (e : Naming × Unit {0}) (us : Listed) (r : Ordering) → named_cmp named e.0.named ≡ r
      → named_cmp named n.named ≡ Equal
      → naming_cmp n e.0 ≡ Less → AllByRecursion (λ k. key_cmp n.user k ≡ Less) (map (λ f. f.0.user) us)
      → AllByRecursion (λ k. key_cmp n.user k ≡ Less) (map (λ f. f.0.user) (cond (is_eq r) (e ∷ us) us))
  later_at n e us Less is tie less rest = rest
  later_at n e us Equal is tie less rest = (
    ap (λ r. ordering_then r (key_cmp n.user e.0.user))
        (sym (sym (named_total.congr named n.named e.0.named tie) ∙ is)) ∙ less,
    rest,
  )
  later_at n e us Greater is tie less rest = rest

  later_users : (n : Naming) (es : Listed) → named_cmp named n.named ≡ Equal → T (below_all naming_cmp n es)
      → AllByRecursion (λ k. key_cmp n.user k ≡ Less) (users named es)
  later_users n [] tie below = tt
  later_users n (e ∷ es) tie below = later_at n e (filter (is_of named) es) (named_cmp named e.0.named) refl tie
      (less_is _ (first_holds _ _ below)) (later_users n es tie (second_holds _ _ below))

  rise_at : (e : Naming × Unit {0}) (us : Listed) (r : Ordering)
      → (r ≡ Equal → AllByRecursion (λ k. key_cmp e.0.user k ≡ Less) (map (λ f. f.0.user) us))
      → IsStrictlySortedBy key_cmp (map (λ f. f.0.user) us)
      → IsStrictlySortedBy key_cmp (map (λ f. f.0.user) (cond (is_eq r) (e ∷ us) us))
  unfolding IsStrictlySortedBy
  rise_at e us Less later rest = rest
  rise_at e us Equal later rest = (later refl, rest)
  rise_at e us Greater later rest = rest

  -- of namings in order the users of a thing rise
  users_rise : (es : Listed) → T (is_sorted naming_cmp es) → IsStrictlySortedBy key_cmp (users named es)
  unfolding IsStrictlySortedBy
  users_rise [] sorted = tt
  users_rise (e ∷ es) sorted = rise_at e (filter (is_of named) es) (named_cmp named e.0.named)
      (λ tie. later_users e.0 es tie (first_holds _ _ sorted)) (users_rise es (second_holds _ _ sorted))

  -- the users of a thing in a set of namings are the keys that name it there, and they rise
  pub users_name_it : (m : Namings) (k : Key)
      → list_any (eq_by_cmp key_cmp k) (users_in named m) ≡ contains_key m (naming k named)
  users_name_it m k = user_of k (entries m) ∙ sym (contains_key-keys m (naming k named))

  pub users_in_order : (m : Namings) → IsStrictlySortedBy key_cmp (users_in named m)
  users_in_order m = users_rise (entries m) (entries_sorted m)

-- whether there is a unit says which option of a unit it is
same_units : (o p : Option (Unit {0})) → is_some o ≡ is_some p → o ≡ p
same_units None None same = refl
same_units (Some a) (Some b) same = refl
same_units None (Some b) same = cc
same_units (Some a) None same = cc

-- sets in which the same namings are, are the same set
pub same_namings : (a b : Namings) → ((n : Naming) → contains_key a n ≡ contains_key b n) → a ≡ b
same_namings a b same = same_map namings_total namings_exact a b (λ n. same_units (get a n) (get b n) (same n))

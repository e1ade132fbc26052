-- The first device over its limit is the least, and there is none exactly where all have room.
use Rattle.std.proofs.Common.{◌≡◌, Bool, true, false, cond, None, Some, List, [], ◌∷◌, T, refl, sym, ap, subst, ◌∙◌}
use Rattle.std.proofs.lemmas.Bool.{or_parts}
use Rattle.std.specs.List.{list_any}
use Rattle.std.specs.Cmp.{tied_itself}
use Rattle.std.specs.FinMap.{get, find, entries_sorted, is_sorted, get-entries}
use Rattle.std.specs.FinMap.Entries.{below_all}
use Rattle.std.specs.Ordering.{eq_by_cmp, ordering_reverse}
use Rattle.std.specs.declared.cmp.Ordering.TheVariants.{Less, Equal, Greater}
use Rattle.iocm_types.specs.declared.key.Key.{Key}
use Rattle.iocm_types.specs.Key.{key_cmp}
use Rattle.iocm_types.specs.KeyOrder.{keys_total, keys_exact}
use Rattle.iocm_types.proofs.Found.{same_key, found_first, found_later}
use Rattle.iocm_types.proofs.Orderings.{less_is}
use Rattle.iocm_types.proofs.Tests.{first_holds, second_holds}
use Rattle.iocm_model.specs.Machine.Record.{Rec, key_of}
use Rattle.iocm_model.specs.Machine.Configuration.{Configuration, IsKeyed, records_of, with_keys}
use Rattle.iocm_model.specs.Rules.EachRule.{breaks_v13}
use Rattle.iocm_model.specs.Rules.FirstBreach.{first_record}
use Rattle.iocm_difference_laws.specs.Meaning.{NamesTheLeast, NamesNoneWithRoom}

-- ---- keys in order

not_both_less : (k q : Key) → key_cmp k q ≡ Less → key_cmp q k ≡ Less → ⊥
not_both_less k q h g = let bad : Greater ≡ Less = sym (keys_total.antisymm k q ∙ ap ordering_reverse g) ∙ h in cc

not_less_itself : (k : Key) → key_cmp k k ≡ Less → ⊥
not_less_itself k h = let bad : Equal ≡ Less = sym (tied_itself keys_total k) ∙ h in cc

-- what is found in entries that are all above a key is above it
above : (k q : Key) (es : List (Key × Rec)) (r : Rec) → T (below_all key_cmp k es) → find key_cmp q es ≡ Some r
    → key_cmp k q ≡ Less
above k q [] r below h = cc
above k q (e ∷ es) r below h = by (eq_by_cmp key_cmp q e.0) refl (above k q es r (second_holds _ _ below)) h
  where
    by : (b : Bool) → eq_by_cmp key_cmp q e.0 ≡ b → (find key_cmp q es ≡ Some r → key_cmp k q ≡ Less)
        → cond b (Some e.1) (find key_cmp q es) ≡ Some r → key_cmp k q ≡ Less
    by true t more h = ap (key_cmp k) (same_key key_cmp keys_exact q e.0 t) ∙ less_is _ (first_holds _ _ below)
    by false t more h = more h

-- ---- the first record that is so

module _ (so : Rec → Bool) where
  -- a record that is so, at its own key, and none of a smaller key is
  record IsLeast (rs : List Rec) (r : Rec) : Type 0 where
    there : find key_cmp (key_of r) (with_keys rs) ≡ Some r
    is : so r ≡ true
    least : (key : Key) (other : Rec) → find key_cmp key (with_keys rs) ≡ Some other → key_cmp key (key_of r) ≡ Less
        → so other ≡ false

  -- in front of all others
  in_front : (x : Rec) (rs : List Rec) → T (below_all key_cmp (key_of x) (with_keys rs)) → so x ≡ true
      → IsLeast (x ∷ rs) x
  in_front x rs below is = record {
    there = found_first key_cmp keys_total keys_exact (key_of x, x) (with_keys rs);
    is = is;
    least = λ key other found less. absurd (by key other (eq_by_cmp key_cmp key (key_of x)) refl found less);
  }
    where
      by : (key : Key) (other : Rec) (b : Bool) → eq_by_cmp key_cmp key (key_of x) ≡ b
          → cond b (Some x) (find key_cmp key (with_keys rs)) ≡ Some other
          → key_cmp key (key_of x) ≡ Less → ⊥
      by key other true t found less =
          not_less_itself key (ap (key_cmp key) (same_key key_cmp keys_exact key (key_of x) t) ∙ less)
      by key other false t found less =
          not_both_less key (key_of x) less (above (key_of x) key (with_keys rs) other below found)

  -- behind one that isn't so
  behind : (x : Rec) (rs : List Rec) (r : Rec) → T (below_all key_cmp (key_of x) (with_keys rs)) → so x ≡ false
      → IsLeast rs r → IsLeast (x ∷ rs) r
  behind x rs r below not_so rest = record {
    there = found_later key_cmp keys_total keys_exact (key_of r) (key_of x, x) (with_keys rs) r below rest.there;
    is = rest.is;
    least = λ key other found less. by key other (eq_by_cmp key_cmp key (key_of x)) found less;
  }
    where
      by : (key : Key) (other : Rec) (b : Bool) → cond b (Some x) (find key_cmp key (with_keys rs)) ≡ Some other
          → key_cmp key (key_of r) ≡ Less → so other ≡ false
      by key other true found less = let same : x ≡ other = cc in ap so (sym same) ∙ not_so
      by key other false found less = rest.least key other found less

  first_is_least : (rs : List Rec) (r : Rec) → T (is_sorted key_cmp (with_keys rs)) → first_record so rs ≡ Some r
      → IsLeast rs r
  unfolding first_record
  first_is_least [] r up h = cc
  first_is_least (x ∷ rs) r up h = by (so x) refl h (first_is_least rs r (second_holds _ _ up))
    where
      by : (b : Bool) → so x ≡ b → cond b (Some x) (first_record so rs) ≡ Some r
          → (first_record so rs ≡ Some r → IsLeast rs r) → IsLeast (x ∷ rs) r
      by true is h more = let same : x ≡ r = cc in subst (IsLeast (x ∷ rs)) same (in_front x rs (first_holds _ _ up) is)
      by false is h more = behind x rs r (first_holds _ _ up) is (more h)

  -- where there is none, no record that is found is so
  none_is : (rs : List Rec) → first_record so rs ≡ None → (key : Key) (r : Rec)
      → find key_cmp key (with_keys rs) ≡ Some r → so r ≡ false
  unfolding first_record
  none_is [] h key r found = cc
  none_is (x ∷ rs) h key r found =
      by (so x) (eq_by_cmp key_cmp key (key_of x)) refl h found (λ later. none_is rs later key r)
    where
      by : (b t : Bool) → so x ≡ b → cond b (Some x) (first_record so rs) ≡ None
          → cond t (Some x) (find key_cmp key (with_keys rs)) ≡ Some r
          → (first_record so rs ≡ None → find key_cmp key (with_keys rs) ≡ Some r → so r ≡ false) → so r ≡ false
      by true t is h found more = cc
      by false true is h found more = let same : x ≡ r = cc in ap so (sym same) ∙ is
      by false false is h found more = more h found

  -- and the other way round
  is_none : (rs : List Rec) → T (is_sorted key_cmp (with_keys rs))
      → ((key : Key) (r : Rec) → find key_cmp key (with_keys rs) ≡ Some r → so r ≡ false) → first_record so rs ≡ None
  unfolding first_record
  is_none [] up none = refl
  is_none (x ∷ rs) up none =
      ap (λ b. cond b (Some x) (first_record so rs))
      (none (key_of x) x (found_first key_cmp keys_total keys_exact (key_of x, x) (with_keys rs)))
      ∙ is_none rs (second_holds _ _ up)
      (λ key r found. none key r
      (found_later key_cmp keys_total keys_exact key (key_of x, x) (with_keys rs) r (first_holds _ _ up) found))

  -- where no listed record is so, none that is found is
  none_listed : (rs : List Rec) → list_any so rs ≡ false → (key : Key) (r : Rec)
      → find key_cmp key (with_keys rs) ≡ Some r → so r ≡ false
  none_listed [] h key r found = cc
  none_listed (x ∷ rs) h key r found =
      let both = or_parts (so x) (list_any so rs) h in
      by (eq_by_cmp key_cmp key (key_of x)) both.0 found (none_listed rs both.1 key r)
    where
      by : (t : Bool) → so x ≡ false → cond t (Some x) (find key_cmp key (with_keys rs)) ≡ Some r
          → (find key_cmp key (with_keys rs) ≡ Some r → so r ≡ false) → so r ≡ false
      by true not_so found more = let same : x ≡ r = cc in ap so (sym same) ∙ not_so
      by false not_so found more = more found

-- ---- of a configuration

listed_up : (d : Configuration) → IsKeyed d → T (is_sorted key_cmp (with_keys (records_of d)))
listed_up d keyed = subst (λ (es : List (Key × Rec)). T (is_sorted key_cmp es)) keyed (entries_sorted d)

get_listed : (d : Configuration) → IsKeyed d → (key : Key) → get d key ≡ find key_cmp key (with_keys (records_of d))
get_listed d keyed key = get-entries d key ∙ ap (find key_cmp key) keyed

-- where no record breaks a rule, none under a key does
pub listed_keeps : (so : Rec → Bool) (d : Configuration) → IsKeyed d → list_any so (records_of d) ≡ false
    → (key : Key) (r : Rec) → get d key ≡ Some r → so r ≡ false
listed_keeps so d keyed none key r there =
    none_listed so (records_of d) none key r (sym (get_listed d keyed key) ∙ there)

pub names_the_least : NamesTheLeast
names_the_least d n r keyed h =
    let least = first_is_least (breaks_v13 d n) (records_of d) r (listed_up d keyed) h in record {
      there = get_listed d keyed (key_of r) ∙ least.there;
      over = least.is;
      least = λ key other found less. least.least key other (sym (get_listed d keyed key) ∙ found) less;
    }

pub names_none_with_room : NamesNoneWithRoom
names_none_with_room d n keyed = (
  λ h key r found. none_is (breaks_v13 d n) (records_of d) h key r (sym (get_listed d keyed key) ∙ found),
  λ room. is_none (breaks_v13 d n) (records_of d) (listed_up d keyed)
      (λ key r found. room key r (get_listed d keyed key ∙ found)),
)

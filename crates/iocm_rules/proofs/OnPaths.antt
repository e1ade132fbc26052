-- The least of the online records that break V4 on the paths of some keys is the first of all,
-- where none breaks it elsewhere.
use Rattle.std.proofs.Common.{◌≡◌, Bool, true, false, cond, ◌&&◌, ◌||◌, nat_eq, eqb-true, eq-eqb, Option, None, Some}
use Rattle.std.proofs.Common.{List, [], ◌∷◌, refl, sym, ap, subst, ◌∙◌}
use Rattle.std.proofs.lemmas.Bool.{false≢true, and_parts}
use Rattle.std.proofs.lemmas.Map.Iter.{rest_all}
use Rattle.std.specs.List.{list_any}
use Rattle.std.specs.List.Sorted.{IsStrictlySortedBy}
use Rattle.std.specs.Map.Iter.{TakesFirst}
use Rattle.std.specs.Option.{option_map}
use Rattle.std.specs.Ordering.{eq_by_cmp}
use Rattle.std.specs.FinMap.{get}
use Rattle.iocm_types.specs.declared.key.Key.{Key}
use Rattle.iocm_types.specs.declared.key.Key.TheVariants as key
use Rattle.iocm_types.specs.declared.named.Named.TheVariants as thing
use Rattle.iocm_types.specs.declared.naming.Naming.{Naming}
use Rattle.iocm_types.specs.Key.{key_cmp}
use Rattle.iocm_types.specs.KeyOrder.{keys_exact}
use Rattle.iocm_types.specs.Naming.{naming_cmp}
use Rattle.iocm_types.proofs.Found.{same_key}
use Rattle.iocm_table.specs.Slots.{Stored, rows}
use Rattle.iocm_index.specs.Namings.{naming, users_in}
use Rattle.iocm_index.proofs.Members.{users_name_it, users_in_order}
use Rattle.iocm_model.specs.Machine.Record.{Rec, OnlineRecord, id, resource, image, limit, path, unit, device, online}
use Rattle.iocm_model.specs.Machine.Record.{key_of}
use Rattle.iocm_model.specs.Machine.Configuration.{Configuration, IsKeyed, lookup_of, records_of}
use Rattle.iocm_model.specs.Rules.EachRule.{breaks_v4}
use Rattle.iocm_model.specs.Rules.FirstBreach.{first_record}
use Rattle.iocm_lookup.specs.Indexed.{names, IsIndexOf}
use Rattle.iocm_lookup.proofs.Members.{own_path, key_found}
use Rattle.iocm_lookup.specs.Among.{least_of, is_so_at}
use Rattle.iocm_lookup.proofs.AtMost.{IsAtMost, first_not_behind}
use Rattle.iocm_lookup.proofs.Firsts.{IsSoAt, least_so_is_first}
use Rattle.iocm_lookup.proofs.LeastAmong.{each_given_holds, least_among, so_at, at_so}
use Rattle.iocm_rules.specs.Onlines.{is_key_at_path, AreOnPathsOf, first_so, first_on_path}

-- ---- of some keys the first whose record is so

module _ (c : Configuration) (is_so : Rec → Bool) where
  first_is_so : (qs : List Key) (k : Key) → first_so is_so (lookup_of c) qs ≡ Some k → IsSoAt is_so (get c) k
  first_is_so [] k is = cc
  first_is_so (q ∷ qs) k is = by (is_so_at is_so (lookup_of c) q) refl is (first_is_so qs k)
    where
      by : (b : Bool) → is_so_at is_so (lookup_of c) q ≡ b → cond b (Some q) (first_so is_so (lookup_of c) qs) ≡ Some k
          → (first_so is_so (lookup_of c) qs ≡ Some k → IsSoAt is_so (get c) k) → IsSoAt is_so (get c) k
      by true so h more = let same : q ≡ k = cc in so_at c is_so k (ap (is_so_at is_so (lookup_of c)) (sym same) ∙ so)
      by false so h more = more h

  -- of keys in order it is not behind one that is so
  first_at_most : (qs : List Key) → IsStrictlySortedBy key_cmp qs → (k : Key) → list_any (eq_by_cmp key_cmp k) qs ≡ true
      → is_so_at is_so (lookup_of c) k ≡ true
      → IsAtMost (first_so is_so (lookup_of c) qs) k
  unfolding IsStrictlySortedBy
  first_at_most [] up k there so = absurd (false≢true there)
  first_at_most (q ∷ qs) up k there so =
      by (is_so_at is_so (lookup_of c) q) refl (λ behind. first_at_most qs up.1 k behind so)
    where
      later : (b : Bool) → eq_by_cmp key_cmp k q ≡ b → is_so_at is_so (lookup_of c) q ≡ false
          → (b || list_any (eq_by_cmp key_cmp k) qs) ≡ true
          → list_any (eq_by_cmp key_cmp k) qs ≡ true
      later true same not_so h =
          absurd (false≢true (sym not_so
          ∙ ap (is_so_at is_so (lookup_of c)) (sym (same_key key_cmp keys_exact k q same)) ∙ so))
      later false same not_so h = h

      by : (b : Bool) → is_so_at is_so (lookup_of c) q ≡ b
          → (list_any (eq_by_cmp key_cmp k) qs ≡ true → IsAtMost (first_so is_so (lookup_of c) qs) k)
          → IsAtMost (cond b (Some q) (first_so is_so (lookup_of c) qs)) k
      by true is more = record { found = q; is = refl; not_behind = first_not_behind q k qs up.0 there }
      by false is more = more (later (eq_by_cmp key_cmp k q) refl is there)

-- ---- the loop over the users of a path

module _ (c : Configuration) (is_so : Rec → Bool) (s t : List Key) (r : Option Key) where
  -- behind the last one there is none
  pub first_none : r ≡ None → TakesFirst (λ (q : Key). q) s r t → first_so is_so (lookup_of c) s ≡ None
  first_none is steps = ap (first_so is_so (lookup_of c)) (rest_all (λ (q : Key). q) s t r is steps)

-- ---- the least on the paths of some keys

module _ (c : Configuration) (t : Stored Naming (Unit {0})) (keyed : IsKeyed c) (of : IsIndexOf c t) where
  key_gives : (q k : Key) → first_on_path (breaks_v4 c) (lookup_of c) (rows naming_cmp t) q ≡ Some k
      → IsSoAt (breaks_v4 c) (get c) k
  key_gives (key.Online css number name) k is =
      first_is_so c (breaks_v4 c) (users_in (thing.Record (key.Path css number)) (rows naming_cmp t)) k is
  key_gives key.Id k is = cc
  key_gives key.Resource k is = cc
  key_gives (key.Image css mif) k is = cc
  key_gives (key.Limit css set) k is = cc
  key_gives (key.Path css number) k is = cc
  key_gives (key.Unit number) k is = cc
  key_gives (key.Device set number) k is = cc

  -- an online record is among the users of its path
  is_user : (k : Key) (o : OnlineRecord) → get c k ≡ Some (online o)
      → list_any (eq_by_cmp key_cmp k) (users_in (thing.Record (key.Path o.css o.path)) (rows naming_cmp t)) ≡ true
  is_user k o here = users_name_it (thing.Record (key.Path o.css o.path)) (rows naming_cmp t) k
      ∙ of (naming k (thing.Record (key.Path o.css o.path)))
      ∙ ap (names (thing.Record (key.Path o.css o.path))) here
      ∙ ap (λ b. b || false) (own_path o.css o.path o.css o.path
      (λ i. eq-eqb o.css o.css refl i && eq-eqb o.path o.path refl i))

  -- so a key of its path gives one that is not behind it
  given_by : (k : Key) (o : OnlineRecord) → get c k ≡ Some (online o) → breaks_v4 c (online o) ≡ true → (q : Key)
      → is_key_at_path o.css o.path q ≡ true
      → IsAtMost (first_on_path (breaks_v4 c) (lookup_of c) (rows naming_cmp t) q) k
  given_by k o here so (key.Online css number name) at =
      let two = and_parts (nat_eq css o.css) _ at in
      subst (λ (p : Key). IsAtMost
      (first_so (breaks_v4 c) (lookup_of c) (users_in (thing.Record p) (rows naming_cmp t))) k)
      (λ i. key.Path (sym (eqb-true css o.css two.0) i) (sym (eqb-true number o.path two.1) i))
      (first_at_most c (breaks_v4 c) (users_in (thing.Record (key.Path o.css o.path)) (rows naming_cmp t))
      (users_in_order (thing.Record (key.Path o.css o.path)) (rows naming_cmp t)) k
      (is_user k o here) (at_so c (breaks_v4 c) k (online o) here so))
  given_by k o here so key.Id at = absurd (false≢true at)
  given_by k o here so key.Resource at = absurd (false≢true at)
  given_by k o here so (key.Image css mif) at = absurd (false≢true at)
  given_by k o here so (key.Limit css set) at = absurd (false≢true at)
  given_by k o here so (key.Path css number) at = absurd (false≢true at)
  given_by k o here so (key.Unit number) at = absurd (false≢true at)
  given_by k o here so (key.Device set number) at = absurd (false≢true at)

  pub least_on_paths_is_first : (keys : List Key) → AreOnPathsOf keys c
      → least_of (first_on_path (breaks_v4 c) (lookup_of c) (rows naming_cmp t)) None keys
      ≡ option_map key_of (first_record (breaks_v4 c) (records_of c))
  least_on_paths_is_first keys paths = least_so_is_first (breaks_v4 c) c keyed
      (least_of (first_on_path (breaks_v4 c) (lookup_of c) (rows naming_cmp t)) None keys)
      (each_given_holds (first_on_path (breaks_v4 c) (lookup_of c) (rows naming_cmp t)) (IsSoAt (breaks_v4 c) (get c))
      key_gives keys) least_at
    where
      least_at : (k : Key) (r : Rec) → get c k ≡ Some r → breaks_v4 c r ≡ true
          → IsAtMost (least_of (first_on_path (breaks_v4 c) (lookup_of c) (rows naming_cmp t)) None keys) k
      least_at k (online o) here so =
          let q = key_found (is_key_at_path o.css o.path) keys (paths k o here so) in
          least_among (first_on_path (breaks_v4 c) (lookup_of c) (rows naming_cmp t)) q.key k
          (given_by k o here so q.key q.passes) keys q.among
      least_at k (id x) here so = absurd (false≢true so)
      least_at k (resource x) here so = absurd (false≢true so)
      least_at k (image x) here so = absurd (false≢true so)
      least_at k (limit x) here so = absurd (false≢true so)
      least_at k (path x) here so = absurd (false≢true so)
      least_at k (unit x) here so = absurd (false≢true so)
      least_at k (device x) here so = absurd (false≢true so)

-- The first record that is so, found by its key: what is so and behind none that is so.
use Rattle.std.proofs.Common.{◌≡◌, Bool, true, false, cond, is_some, Option, None, Some, List, [], ◌∷◌, T, refl, sym}
use Rattle.std.proofs.Common.{ap, ◌∙◌}
use Rattle.std.proofs.lemmas.Bool.{false≢true}
use Rattle.std.specs.List.{AllByRecursion}
use Rattle.std.specs.Option.{option_map}
use Rattle.std.specs.Ordering.{is_lt, eq_by_cmp}
use Rattle.std.specs.declared.cmp.Ordering.TheVariants.{Less}
use Rattle.std.specs.FinMap.{find, get, entries, entries_sorted, is_sorted, get-entries}
use Rattle.std.specs.FinMap.Entries.{below_all}
use Rattle.iocm_types.specs.declared.key.Key.{Key}
use Rattle.iocm_types.specs.Key.{key_cmp}
use Rattle.iocm_types.specs.KeyOrder.{keys_total, keys_exact}
use Rattle.iocm_types.proofs.Found.{same_key, found_first, found_later}
use Rattle.iocm_types.proofs.Orderings.{less_is}
use Rattle.iocm_types.proofs.Tests.{first_holds, second_holds}
use Rattle.iocm_model.specs.Machine.Record.{Rec, key_of}
use Rattle.iocm_model.specs.Machine.Configuration.{Configuration, IsKeyed, records_of}
use Rattle.iocm_model.specs.Rules.FirstBreach.{first_record}
use Rattle.iocm_lookup.proofs.Members.{record_there}
use Rattle.iocm_lookup.specs.Entries.{AreOwn, in_entries}
use Rattle.iocm_lookup.proofs.Walks.{own_entries, first_of_any}
use Rattle.iocm_lookup.proofs.AtMost.{IsAtMost}

-- what is found in entries that are all above a key is above it
above : (k q : Key) (es : List (Key × Rec)) (r : Rec) → T (below_all key_cmp k es) → find key_cmp q es ≡ Some r
    → key_cmp k q ≡ Less
above k q [] r below h = cc
above k q (e ∷ es) r below h = by (eq_by_cmp key_cmp q e.0) refl (above k q es r (second_holds _ _ below)) h
  where
    by : (b : Bool) → eq_by_cmp key_cmp q e.0 ≡ b → (find key_cmp q es ≡ Some r → key_cmp k q ≡ Less)
        → cond b (Some e.1) (find key_cmp q es) ≡ Some r → key_cmp k q ≡ Less
    by true t more h = ap (key_cmp k) (same_key key_cmp keys_exact q e.0 t) ∙ less_is _ (first_holds _ _ below)
    by false t more h = more h

-- a record at a key, that is so
pub record IsSoAt (is_so : Rec → Bool) (found : Key → Option Rec) (k : Key) : Type 0 where
  pub one : Rec
  pub there : found k ≡ Some one
  pub so : is_so one ≡ true

module _ (is_so : Rec → Bool) where
  -- the key of one that is so, which no other that is so is before
  abbrev pub IsSound : (Key → Option Rec) → Option Key → Type 0
  IsSound found best = (k : Key) → best ≡ Some k → IsSoAt is_so found k

  abbrev pub IsLeastSo : (Key → Option Rec) → Option Key → Type 0
  IsLeastSo found best = (k : Key) (r : Rec) → found k ≡ Some r → is_so r ≡ true → IsAtMost best k

  first_of_entries : (es : List (Key × Rec)) → T (is_sorted key_cmp es) → AreOwn es → (best : Option Key)
      → IsSound (λ k. find key_cmp k es) best → IsLeastSo (λ k. find key_cmp k es) best
      → best ≡ option_map key_of (first_record is_so (in_entries es))
  unfolding first_record
  first_of_entries [] up own best sound least = none best sound
    where
      none : (b : Option Key) → ((k : Key) → b ≡ Some k → IsSoAt is_so (λ q. find key_cmp q []) k) → b ≡ None
      none None s = refl
      none (Some k) s = let no = (s k refl).there in cc
  first_of_entries (e ∷ es) up own best sound least =
      by (is_so e.1) refl (first_of_entries es (second_holds _ _ up) own.1 best)
    where
      here : is_so e.1 ≡ true → best ≡ Some e.0
      here so = at (least e.0 e.1 (found_first key_cmp keys_total keys_exact e es) so)
        where
          at : IsAtMost best e.0 → best ≡ Some e.0
          at m = apart (sound m.found m.is)
            where
              apart : IsSoAt is_so (λ q. find key_cmp q (e ∷ es)) m.found → best ≡ Some e.0
              apart s = tell (eq_by_cmp key_cmp m.found e.0) refl s.there
                where
                  tell : (b : Bool) → eq_by_cmp key_cmp m.found e.0 ≡ b
                      → cond b (Some e.1) (find key_cmp m.found es) ≡ Some s.one → best ≡ Some e.0
                  tell true t h = m.is ∙ ap Some (same_key key_cmp keys_exact m.found e.0 t)
                  tell false t h = absurd (false≢true
                      (sym m.not_behind ∙ ap is_lt (above e.0 m.found es s.one (first_holds _ _ up) h)))

      later_sound : is_so e.1 ≡ false → (k : Key) → best ≡ Some k → IsSoAt is_so (λ q. find key_cmp q es) k
      later_sound not k is = at (sound k is)
        where
          at : IsSoAt is_so (λ q. find key_cmp q (e ∷ es)) k → IsSoAt is_so (λ q. find key_cmp q es) k
          at s = tell (eq_by_cmp key_cmp k e.0) refl s.there
            where
              tell : (b : Bool) → eq_by_cmp key_cmp k e.0 ≡ b → cond b (Some e.1) (find key_cmp k es) ≡ Some s.one
                  → IsSoAt is_so (λ q. find key_cmp q es) k
              tell true t h = let same : e.1 ≡ s.one = cc in absurd (false≢true (sym not ∙ ap is_so same ∙ s.so))
              tell false t h = record { one = s.one; there = h; so = s.so }

      by : (b : Bool) → is_so e.1 ≡ b
          → (((k : Key) → best ≡ Some k → IsSoAt is_so (λ q. find key_cmp q es) k)
          → ((k : Key) (r : Rec) → find key_cmp k es ≡ Some r → is_so r ≡ true → IsAtMost best k)
          → best ≡ option_map key_of (first_record is_so (in_entries es)))
          → best ≡ option_map key_of (cond b (Some e.1) (first_record is_so (in_entries es)))
      by true is more = here is ∙ ap Some own.0
      by false is more = more (later_sound is)
          (λ k r h so. least k r (found_later key_cmp keys_total keys_exact k e es r (first_holds _ _ up) h) so)

  -- the key of one that is so and that no other is before is that of the first
  pub least_so_is_first : (c : Configuration) → IsKeyed c → (best : Option Key) → IsSound (get c) best
      → IsLeastSo (get c) best
      → best ≡ option_map key_of (first_record is_so (records_of c))
  least_so_is_first c keyed best sound least = first_of_entries (entries c) (entries_sorted c) (own_entries c keyed)
      best
      (λ k is. let s = sound k is in record { one = s.one; there = sym (get-entries c k) ∙ s.there; so = s.so })
      (λ k r h so. least k r (get-entries c k ∙ h) so)

-- each record of entries is found under its own key
found_each : (c : Configuration) (es : List (Key × Rec)) → T (is_sorted key_cmp es) → AreOwn es
    → ((k : Key) (r : Rec) → find key_cmp k es ≡ Some r → get c k ≡ Some r)
    → AllByRecursion (λ r. get c (key_of r) ≡ Some r) (in_entries es)
found_each c [] up own is = tt
found_each c (e ∷ es) up own is = (
  ap (get c) (sym own.0) ∙ is e.0 e.1 (found_first key_cmp keys_total keys_exact e es),
  found_each c es (second_holds _ _ up) own.1
      (λ k r h. is k r (found_later key_cmp keys_total keys_exact k e es r (first_holds _ _ up) h)),
)

pub records_are_there : (c : Configuration) → IsKeyed c → AllByRecursion (λ r. get c (key_of r) ≡ Some r) (records_of c)
records_are_there c keyed =
    found_each c (entries c) (entries_sorted c) (own_entries c keyed) (λ k r h. get-entries c k ∙ h)

-- where there is no first record that is so, none that is there is
pub none_is_so : (is_so : Rec → Bool) (c : Configuration) → first_record is_so (records_of c) ≡ None
    → (k : Key) (r : Rec) → get c k ≡ Some r → is_so r ≡ false
none_is_so is_so c none k r here = by (is_so r) refl
  where
    by : (b : Bool) → is_so r ≡ b → is_so r ≡ false
    by true is = absurd (false≢true
        (ap (λ o. is_some (option_map key_of o)) (sym none) ∙ first_of_any is_so (records_of c)
        ∙ record_there c is_so k r here is))
    by false is = is

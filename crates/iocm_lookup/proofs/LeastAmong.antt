-- Where only records at some keys can be so, the least of these keys whose record is so is the
-- first of all.
use Rattle.std.proofs.Common.{◌≡◌, ◌⊎◌, inl, inr, Bool, true, false, cond, Option, None, Some, List, [], ◌∷◌, refl, sym}
use Rattle.std.proofs.Common.{ap, subst, ◌∙◌}
use Rattle.std.proofs.lemmas.Bool.{false≢true}
use Rattle.std.specs.List.{AllByRecursion}
use Rattle.std.specs.Option.{option_map, option_map_or}
use Rattle.std.specs.Ordering.{eq_by_cmp, is_lt}
use Rattle.std.specs.Cmp.{tied_itself}
use Rattle.std.specs.FinMap.{get}
use Rattle.iocm_types.specs.declared.key.Key.{Key}
use Rattle.iocm_types.specs.Key.{key_cmp}
use Rattle.iocm_types.specs.KeyOrder.{keys_total, keys_exact}
use Rattle.iocm_types.proofs.Found.{same_key}
use Rattle.iocm_model.specs.Machine.Record.{Rec, key_of}
use Rattle.iocm_model.specs.Machine.Configuration.{Configuration, IsKeyed, lookup_of, records_of}
use Rattle.iocm_model.specs.Rules.FirstBreach.{first_record}
use Rattle.iocm_lookup.specs.Among.{least_of, is_one_of, is_so_at, key_if, IsOnlyAt}
use Rattle.iocm_lookup.proofs.Firsts.{IsSoAt, least_so_is_first}
use Rattle.iocm_lookup.proofs.AtMost.{IsAtMost, least_at_most, least_is_given, IsGiver}

-- ---- what is given by one of some

no_condition : {A : Type 0} (xs : List A) → AllByRecursion (λ (x : A). Unit {0}) xs
no_condition [] = tt
no_condition (x ∷ xs) = (tt, no_condition xs)

-- what each of some gives holds of the least
pub each_given_holds : {A : Type 0} (gives : A → Option Key) (P : Key → Type 0)
    → ((x : A) (k : Key) → gives x ≡ Some k → P k)
    → (xs : List A) (k : Key) → least_of gives None xs ≡ Some k → P k
each_given_holds {A} gives P each xs k is =
    by (least_is_given gives (λ (x : A). Unit {0}) xs (no_condition xs) None k is)
  where
    by : (None ≡ Some k) ⊎ IsGiver gives (λ (x : A). Unit {0}) k → P k
    by (inl h) = cc
    by (inr g) = each g.giver k g.given

-- a key that one of these gives, not behind another: so is the least
pub least_among : (gives : Key → Option Key) (q k : Key) → IsAtMost (gives q) k → (keys : List Key)
    → is_one_of q keys ≡ true → IsAtMost (least_of gives None keys) k
least_among gives q k given keys there = least_at_most gives (eq_by_cmp key_cmp q) k
    (λ other same. subst (λ (p : Key). IsAtMost (gives p) k) (same_key key_cmp keys_exact q other same) given) keys None
    there

-- a key is not behind itself
pub at_itself : (k : Key) → IsAtMost (Some k) k
at_itself k = record { found = k; is = refl; not_behind = ap is_lt (tied_itself keys_total k) }

-- ---- the record at a key

module _ (c : Configuration) (is_so : Rec → Bool) where
  pub so_at : (k : Key) → is_so_at is_so (lookup_of c) k ≡ true → IsSoAt is_so (get c) k
  so_at k h = by (get c k) refl h
    where
      by : (o : Option Rec) → get c k ≡ o → option_map_or is_so o false ≡ true → IsSoAt is_so (get c) k
      by None is h = absurd (false≢true h)
      by (Some r) is h = record { one = r; there = is; so = h }

  pub at_so : (k : Key) (r : Rec) → get c k ≡ Some r → is_so r ≡ true → is_so_at is_so (lookup_of c) k ≡ true
  at_so k r here so = ap (λ o. option_map_or is_so o false) here ∙ so

  given_so : (q k : Key) → key_if is_so (lookup_of c) q ≡ Some k → IsSoAt is_so (get c) k
  given_so q k h = by (is_so_at is_so (lookup_of c) q) refl h
    where
      by : (b : Bool) → is_so_at is_so (lookup_of c) q ≡ b → cond b (Some q) None ≡ Some k → IsSoAt is_so (get c) k
      by true so h = let same : q ≡ k = cc in so_at k (ap (is_so_at is_so (lookup_of c)) (sym same) ∙ so)
      by false so h = cc

  pub least_wanted_is_first : IsKeyed c → (keys : List Key) → IsOnlyAt keys c is_so
      → least_of (key_if is_so (lookup_of c)) None keys ≡ option_map key_of (first_record is_so (records_of c))
  least_wanted_is_first keyed keys only = least_so_is_first is_so c keyed
      (least_of (key_if is_so (lookup_of c)) None keys)
      (each_given_holds (key_if is_so (lookup_of c)) (IsSoAt is_so (get c)) given_so keys)
      (λ k r here so. least_among (key_if is_so (lookup_of c)) k k
      (subst (λ (o : Option Key). IsAtMost o k) (sym (ap (λ b. cond b (Some k) None) (at_so k r here so)))
      (at_itself k)) keys (only k r here so))

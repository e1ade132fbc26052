-- Records of a configuration that pass a test, and users of a thing that do, where the index is
-- that of the configuration.
use Rattle.std.proofs.Common.{◌≡◌, ℕ, Bool, true, false, ◌&&◌, ◌||◌, nat_eq, List, [], ◌∷◌, map, Option, Some, None}
use Rattle.std.proofs.Common.{refl, sym, ap, ◌∙◌, arith}
use Rattle.std.proofs.lemmas.Bool.{false≢true}
use Rattle.std.proofs.lemmas.Bool.Decides.{nat_tests}
use Rattle.std.specs.List.{list_any}
use Rattle.std.specs.Ordering.{eq_by_cmp}
use Rattle.std.specs.FinMap.{get, entries, entries_sorted, get-entries}
use Rattle.iocm_types.specs.declared.key.Key.{Key}
use Rattle.iocm_types.specs.declared.key.Key.TheVariants.{Path}
use Rattle.iocm_types.specs.declared.named.Named.{Named}
use Rattle.iocm_types.specs.declared.named.Named.TheVariants.{Record}
use Rattle.iocm_types.specs.declared.naming.Naming.{Naming}
use Rattle.iocm_types.specs.Key.{key_cmp}
use Rattle.iocm_types.specs.KeyOrder.{keys_total, keys_exact}
use Rattle.iocm_types.specs.Naming.{named_cmp}
use Rattle.iocm_types.proofs.Found.{same_key, ties_itself, passing, found_fails}
use Rattle.iocm_table.specs.Slots.{Stored}
use Rattle.iocm_model.specs.Machine.Record.{Rec, key_of}
use Rattle.iocm_model.specs.Machine.Configuration.{Configuration, IsKeyed, records_of}
use Rattle.iocm_model.proofs.Machine.OwnKeys.{keyed_own}
use Rattle.iocm_index.specs.Namings.{naming, is_linked}
use Rattle.iocm_index.proofs.Front.{named_total}
use Rattle.iocm_lookup.specs.Indexed.{names, IsIndexOf}

-- tests that imply each other answer alike
pub same_tests : (a b : Bool) → (a ≡ true → b ≡ true) → (b ≡ true → a ≡ true) → a ≡ b
same_tests true b there back = sym (there refl)
same_tests false true there back = back refl
same_tests false false there back = refl

-- what isn't false is true
pub not_false : (b : Bool) → (b ≡ false → ⊥) → b ≡ true
not_false true h = refl
not_false false h = absurd (h refl)

-- ---- records

-- a record of a configuration that passes a test, under its own key
pub record IsMember (c : Configuration) (test : Rec → Bool) : Type 0 where
  pub member : Rec
  pub there : get c (key_of member) ≡ Some member
  pub passes : test member ≡ true

of_entries : (test : Rec → Bool) (es : List (Key × Rec))
    → list_any test (map (λ (e : Key × Rec). e.1) es) ≡ list_any (λ (e : Key × Rec). test e.1) es
of_entries test [] = refl
of_entries test (e ∷ es) = ap (λ b. test e.1 || b) (of_entries test es)

-- where some record passes a test, there is one
pub record_found : (c : Configuration) (test : Rec → Bool) → IsKeyed c → list_any test (records_of c) ≡ true
    → IsMember c test
record_found c test keyed any =
    let found = passing key_cmp keys_total keys_exact (λ (e : Key × Rec). test e.1) (entries c) (entries_sorted c)
    (sym (of_entries test (entries c)) ∙ any) in
    let here : get c found.key ≡ Some found.value = get-entries c found.key ∙ found.found in
    record {
      member = found.value;
      there = ap (get c) (keyed_own c keyed found.key found.value here) ∙ here;
      passes = found.passes;
    }

-- where a record that is there passes a test, some record does
pub record_there : (c : Configuration) (test : Rec → Bool) (k : Key) (r : Rec) → get c k ≡ Some r → test r ≡ true
    → list_any test (records_of c) ≡ true
record_there c test k r here passes = not_false _ (λ none. false≢true
    (sym (found_fails key_cmp keys_total keys_exact (λ (e : Key × Rec). test e.1) (entries c) k r
    (sym (of_entries test (entries c)) ∙ none) (sym (get-entries c k) ∙ here))
    ∙ passes))

-- ---- keys in a list

-- a key in a list that passes a test
pub record IsKeyAmong (test : Key → Bool) (ks : List Key) : Type 0 where
  pub key : Key
  pub among : list_any (eq_by_cmp key_cmp key) ks ≡ true
  pub passes : test key ≡ true

or_later : (a b : Bool) → b ≡ true → (a || b) ≡ true
or_later true b h = refl
or_later false b h = h

pub key_found : (test : Key → Bool) (ks : List Key) → list_any test ks ≡ true → IsKeyAmong test ks
key_found test [] any = cc
key_found test (k ∷ ks) any = by (test k) refl any (key_found test ks)
  where
    by : (b : Bool) → test k ≡ b → (b || list_any test ks) ≡ true → (list_any test ks ≡ true → IsKeyAmong test ks)
        → IsKeyAmong test (k ∷ ks)
    by true is any more = record {
      key = k;
      among = ap (λ b. b || list_any (eq_by_cmp key_cmp k) ks) (ties_itself key_cmp keys_total k);
      passes = is;
    }
    by false is any more = let later = more any in record {
      key = later.key;
      among = or_later (eq_by_cmp key_cmp later.key k) _ later.among;
      passes = later.passes;
    }

pub key_there : (test : Key → Bool) (ks : List Key) (k : Key) → list_any (eq_by_cmp key_cmp k) ks ≡ true → test k ≡ true
    → list_any test ks ≡ true
key_there test [] k among passes = cc
key_there test (q ∷ ks) k among passes =
    by (eq_by_cmp key_cmp k q) refl among (λ later. key_there test ks k later passes)
  where
    by : (b : Bool) → eq_by_cmp key_cmp k q ≡ b → (b || list_any (eq_by_cmp key_cmp k) ks) ≡ true
        → (list_any (eq_by_cmp key_cmp k) ks ≡ true → list_any test ks ≡ true) → (test q || list_any test ks) ≡ true
    by true is any more = ap (λ b. b || list_any test ks) (ap test (sym (same_key key_cmp keys_exact k q is)) ∙ passes)
    by false is any more = or_later (test q) _ (more any)

-- ---- users of a thing

-- paths with the same numbers are one
pub own_path : (a b c d : ℕ) → (nat_eq c a && nat_eq d b) ≡ true
    → eq_by_cmp named_cmp (Record (Path a b)) (Record (Path c d)) ≡ true
own_path a b c d e =
    let css : c ≡ a = grind (arith, nat_tests) in
    let number : d ≡ b = grind (arith, nat_tests) in
    (λ i. eq_by_cmp named_cmp (Record (Path a b)) (Record (Path (css i) (number i))))
    ∙ ties_itself named_cmp named_total (Record (Path a b))

-- the users of a thing, as an index answers them
abbrev pub AreUsersOf : Stored Naming (Unit {0}) → Named → List Key → Type 0
AreUsersOf t thing ks = (k : Key) → list_any (eq_by_cmp key_cmp k) ks ≡ is_linked t (naming k thing)

-- a record that names a thing, whose key passes a test
pub record IsUser (c : Configuration) (thing : Named) (test : Key → Bool) : Type 0 where
  pub user : Rec
  pub there : get c (key_of user) ≡ Some user
  pub named : names thing (Some user) ≡ true
  pub passes : test (key_of user) ≡ true

user_by : (c : Configuration) (thing : Named) (test : Key → Bool) (k : Key) (o : Option Rec) → IsKeyed c → get c k ≡ o
    → names thing o ≡ true → test k ≡ true → IsUser c thing test
user_by c thing test k None keyed is named passes = cc
user_by c thing test k (Some r) keyed is named passes =
    let own : key_of r ≡ k = keyed_own c keyed k r is in
    record { user = r; there = ap (get c) own ∙ is; named = named; passes = ap test own ∙ passes }

-- where the key of some user passes a test, there is a record that names the thing and whose key
-- does
pub user_found : (c : Configuration) (t : Stored Naming (Unit {0})) (thing : Named) (ks : List Key) (test : Key → Bool)
    → IsKeyed c → IsIndexOf c t → AreUsersOf t thing ks
    → list_any test ks ≡ true → IsUser c thing test
user_found c t thing ks test keyed of users any =
    let found = key_found test ks any in
    user_by c thing test found.key (get c found.key) keyed refl
    (sym (of (naming found.key thing)) ∙ sym (users found.key) ∙ found.among) found.passes

-- where a record names the thing and its key passes a test, the key of some user does
pub user_there : (c : Configuration) (t : Stored Naming (Unit {0})) (thing : Named) (ks : List Key) (test : Key → Bool)
    → IsIndexOf c t → AreUsersOf t thing ks
    → (k : Key) (r : Rec) → get c k ≡ Some r → names thing (Some r) ≡ true → test k ≡ true → list_any test ks ≡ true
user_there c t thing ks test of users k r here named passes =
    key_there test ks k (users k ∙ of (naming k thing) ∙ ap (names thing) here ∙ named) passes

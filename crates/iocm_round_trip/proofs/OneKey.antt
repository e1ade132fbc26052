-- In the deck of a configuration no key stands twice: the key of each record tells the record of
-- the configuration that it comes from.
use Rattle.std.proofs.Common.{◌≡◌, ℕ, Bool, true, false, cond, None, List, [], ◌∷◌, ◌++◌, map, All, Some, refl, sym, ap}
use Rattle.std.proofs.Common.{subst, ◌∙◌}
use Rattle.std.proofs.lemmas.Bool.{false≢true}
use Rattle.std.proofs.lemmas.List.Elements.{All-head, All-tail}
use Rattle.std.specs.Cmp.{tied_itself, nat_cmp_total}
use Rattle.std.specs.declared.cmp.Ordering.TheVariants.{Less}
use Rattle.std.specs.FinMap.{find}
use Rattle.std.specs.List.{AllByRecursion}
use Rattle.std.specs.List.Sorted.{IsStrictlySortedBy}
use Rattle.std.specs.Ordering.{eq_by_cmp, is_eq}
use Rattle.iocm_types.specs.declared.key.Key.{Key}
use Rattle.iocm_types.specs.declared.key.Key.TheVariants as key
use Rattle.iocm_types.specs.Key.{key_cmp}
use Rattle.iocm_types.specs.KeyOrder.{keys_total, keys_exact}
use Rattle.iocm_types.proofs.Found.{same_key}
use Rattle.iocm_model.specs.Machine.Record.{Rec, id, resource, image, limit, path, unit, device, online, key_of}
use Rattle.iocm_model.specs.Machine.Configuration.{with_keys, HasNoKeyTwice}
use Rattle.iocm_values.specs.NameSet.{name_cmp}
use Rattle.iocm_values.proofs.Rising.{set_is_sorted}
use Rattle.iocm_record_reader.specs.ChpidRecords.{online_to}
use Rattle.iocm_round_trip.specs.Again.{expanded, deck_of}
use Rattle.iocm_round_trip.specs.Given.{IsGiven}
use Rattle.iocm_round_trip.proofs.ByKind.{AreOrdered}
use Rattle.iocm_round_trip.proofs.InOrder.{ComesBefore}

-- no record of these has the key
abbrev IsNew : Key → List Rec → Type 0
IsNew k rs = find key_cmp k (with_keys rs) ≡ None

new_to_both : (k : Key) (xs ys : List Rec) → IsNew k xs → IsNew k ys → IsNew k (xs ++ ys)
new_to_both k [] ys first second = second
new_to_both k (x ∷ xs) ys first second =
    by (eq_by_cmp key_cmp k (key_of x)) refl first (λ more. new_to_both k xs ys more second)
  where
    by : (b : Bool) → eq_by_cmp key_cmp k (key_of x) ≡ b → cond b (Some x) (find key_cmp k (with_keys xs)) ≡ None
        → (IsNew k xs → IsNew k (xs ++ ys)) → IsNew k ((x ∷ xs) ++ ys)
    by true same e more = cc
    by false other e more = rw other (more e)

apart_both : (xs ys : List Rec) → HasNoKeyTwice xs → HasNoKeyTwice ys → AllByRecursion (λ x. IsNew (key_of x) ys) xs
    → HasNoKeyTwice (xs ++ ys)
apart_both [] ys first second new = second
apart_both (x ∷ xs) ys first second new =
    (new_to_both (key_of x) xs ys first.0 new.0, apart_both xs ys first.1 second new.1)

-- ---- where a record of the deck comes from

owner : Key → Key
owner (key.Online css number name) = key.Path css number
owner key.Id = key.Id
owner key.Resource = key.Resource
owner (key.Image css mif) = key.Image css mif
owner (key.Limit css set) = key.Limit css set
owner (key.Path css number) = key.Path css number
owner (key.Unit number) = key.Unit number
owner (key.Device set number) = key.Device set number

ComesFrom : Rec → Rec → Type 0
ComesFrom r x = owner (key_of x) ≡ key_of r

online_from : (r : Rec) (css number : ℕ) → key.Path css number ≡ key_of r → (names : List (List ℕ))
    → AllByRecursion (ComesFrom r) (map (online_to css number) names)
unfolding owner ComesFrom
online_from r css number own [] = tt
online_from r css number own (name ∷ names) = (own, online_from r css number own names)

each_from : (r : Rec) → AllByRecursion (ComesFrom r) (expanded r)
unfolding owner ComesFrom
each_from (id carried) = (refl, tt)
each_from (resource carried) = (refl, tt)
each_from (image i) = (refl, tt)
each_from (limit l) = (refl, tt)
each_from (path p) = (refl, online_from (path p) p.css p.number refl p.access)
each_from (unit u) = (refl, tt)
each_from (device d) = (refl, tt)
each_from (online o) = tt

-- a key of another record's isn't among them
other_owner : (k : Key) (r x : Rec) → ComesFrom r x → eq_by_cmp key_cmp (owner k) (key_of r) ≡ false
    → eq_by_cmp key_cmp k (key_of x) ≡ false
unfolding ComesFrom
other_owner k r x from other = by (eq_by_cmp key_cmp k (key_of x)) refl
  where
    by : (b : Bool) → eq_by_cmp key_cmp k (key_of x) ≡ b → b ≡ false
    by false e = refl
    by true e =
        let same : owner k ≡ key_of r = ap owner (same_key key_cmp keys_exact k (key_of x) e) ∙ from in
        let tied : eq_by_cmp key_cmp (owner k) (key_of r) ≡ true =
        ap (λ q. eq_by_cmp key_cmp q (key_of r)) same ∙ ap is_eq (tied_itself keys_total (key_of r)) in
        absurd (false≢true (sym other ∙ tied))

new_to_record : (k : Key) (r : Rec) → eq_by_cmp key_cmp (owner k) (key_of r) ≡ false → (xs : List Rec)
    → AllByRecursion (ComesFrom r) xs → IsNew k xs
new_to_record k r other [] from = refl
new_to_record k r other (x ∷ xs) from = rw (other_owner k r x from.0 other) (new_to_record k r other xs from.1)

new_to_deck : (k : Key) (rs : List Rec) → AllByRecursion (λ r. eq_by_cmp key_cmp (owner k) (key_of r) ≡ false) rs
    → IsNew k (deck_of rs)
new_to_deck k [] other = refl
new_to_deck k (r ∷ rs) other =
    new_to_both k (expanded r) (deck_of rs) (new_to_record k r other.0 (expanded r) (each_from r))
    (new_to_deck k rs other.1)

-- ---- the records of a path

less_differs : (a b : Key) → key_cmp a b ≡ Less → eq_by_cmp key_cmp a b ≡ false
less_differs a b less = ap is_eq less

path_apart : (css number : ℕ) (names : List (List ℕ)) → IsNew (key.Path css number) (map (online_to css number) names)
path_apart css number [] = refl
path_apart css number (name ∷ names) = path_apart css number names

online_less : (css number : ℕ) (a b : List ℕ) → name_cmp a b ≡ Less
    → key_cmp (key.Online css number a) (key.Online css number b) ≡ Less
online_less css number a b less = rw (tied_itself nat_cmp_total css, tied_itself nat_cmp_total number) less

online_new : (css number : ℕ) (a : List ℕ) (names : List (List ℕ)) → AllByRecursion (λ b. name_cmp a b ≡ Less) names
    → IsNew (key.Online css number a) (map (online_to css number) names)
online_new css number a [] less = refl
online_new css number a (b ∷ names) less =
    rw (less_differs (key.Online css number a) (key.Online css number b) (online_less css number a b less.0))
    (online_new css number a names less.1)

online_apart : (css number : ℕ) (names : List (List ℕ)) → IsStrictlySortedBy name_cmp names
    → HasNoKeyTwice (map (online_to css number) names)
unfolding IsStrictlySortedBy
online_apart css number [] sorted = tt
online_apart css number (name ∷ names) sorted =
    (online_new css number name names sorted.0, online_apart css number names sorted.1)

record_apart : (r : Rec) → IsGiven r → HasNoKeyTwice (expanded r)
record_apart (id carried) is = (refl, tt)
record_apart (resource carried) is = (refl, tt)
record_apart (image i) is = (refl, tt)
record_apart (limit l) is = (refl, tt)
record_apart (path p) is = (
  path_apart p.css p.number p.access,
  online_apart p.css p.number p.access
      (subst (IsStrictlySortedBy name_cmp) is.access.ascending (set_is_sorted p.access)),
)
record_apart (unit u) is = (refl, tt)
record_apart (device d) is = (refl, tt)
record_apart (online o) is = tt

-- ---- all records

behind_differ : (k : Key) (r : Rec) → owner k ≡ key_of r → (rs : List Rec) → AllByRecursion (ComesBefore r) rs
    → AllByRecursion (λ s. eq_by_cmp key_cmp (owner k) (key_of s) ≡ false) rs
behind_differ k r own [] behind = tt
behind_differ k r own (s ∷ rs) behind = (
  ap (λ q. eq_by_cmp key_cmp q (key_of s)) own
      ∙ less_differs (key_of r) (key_of s) behind.0,
  behind_differ k r own rs behind.1,
)

new_behind : (r : Rec) (rs : List Rec) → AllByRecursion (ComesBefore r) rs → (xs : List Rec)
    → AllByRecursion (ComesFrom r) xs
    → AllByRecursion (λ x. IsNew (key_of x) (deck_of rs)) xs
unfolding ComesFrom
new_behind r rs behind [] from = tt
new_behind r rs behind (x ∷ xs) from =
    (new_to_deck (key_of x) rs (behind_differ (key_of x) r from.0 rs behind), new_behind r rs behind xs from.1)

pub deck_has_no_key_twice : (rs : List Rec) → AreOrdered ComesBefore rs → All IsGiven rs → HasNoKeyTwice (deck_of rs)
deck_has_no_key_twice [] ordered are = tt
deck_has_no_key_twice (r ∷ rs) ordered are =
    apart_both (expanded r) (deck_of rs) (record_apart r (All-head IsGiven r rs are))
    (deck_has_no_key_twice rs ordered.1 (All-tail IsGiven r rs are))
    (new_behind r rs ordered.0 (expanded r) (each_from r))

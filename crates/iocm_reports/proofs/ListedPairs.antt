-- The pairs that are listed, those of which the deck says otherwise, and where the deck says all.
use Rattle.std.proofs.Common.{◌≡◌, Bool, true, false, cond, not, ◌&&◌, ◌||◌, ℕ, ◌+◌, ◌<◌, List, [], ◌∷◌, ◌++◌, length}
use Rattle.std.proofs.Common.{get_or, take, map, filter, Option, Some, None, is_some, refl, sym, ap, ◌∙◌}
use Rattle.std.specs.List.{flat_map, list_any}
use Rattle.std.specs.List.Sorted.{IsStrictlySortedBy}
use Rattle.std.specs.Option.{option_eq}
use Rattle.std.specs.Ordering.{eq_by_cmp}
use Rattle.std.specs.FinMap.{get, insert, contains_key, contains_key-keys, keys, get-insert, get-from_entries, entries}
use Rattle.std.specs.FinMap.{entries_sorted}
use Rattle.std.specs.FinMap.Entries.{is_some-find}
use Rattle.std.proofs.lemmas.Grind.{fold-append}
use Rattle.std.proofs.lemmas.List.{map-append, take_more, append-nil}
use Rattle.std.proofs.lemmas.List.Folds.{list_any-append}
use Rattle.std.proofs.lemmas.Simd.{map-map}
use Rattle.iocm_types.specs.declared.key.Key.{Key}
use Rattle.iocm_types.specs.Key.{key_cmp}
use Rattle.iocm_types.specs.KeyOrder.{keys_total, keys_exact}
use Rattle.iocm_model.specs.Machine.Configuration.{Configuration, records_of, with_keys}
use Rattle.iocm_model.specs.Machine.Record.{Rec, key_of, PathRecord, path, id, resource, image, limit, unit, device}
use Rattle.iocm_model.specs.Machine.Record.{online}
use Rattle.iocm_model.proofs.Maps.Cells.{any_filter, get_retained, in_differing}
use Rattle.iocm_config.specs.OnlineLast.{is_online}
use Rattle.iocm_seats.proofs.Ordered.{differing_rise, same_members}
use Rattle.iocm_reports.specs.Deck.{online_by, online_by_lists, online_in, pairs_listed, pairs_untold, remark_line}
use Rattle.iocm_reports.specs.Gathered.{Pairs, pair_of, with_pairs}
use Rattle.iocm_types.proofs.Found.{ties_itself}
use Rattle.iocm_deck_writer.specs.Canonical.{canonical_deck}
use Rattle.iocm_types.proofs.InOrder.{keys_rise}
use Rattle.iocm_reports.specs.Laws.{DeckSaysAll, OnlyADeckSaysAll}

-- whether a key is among some
abbrev pub among : Key → List Key → Bool
among k ks = list_any (eq_by_cmp key_cmp k) ks

-- ---- keys that are added

or_both : (a b c : Bool) → ((a || b) || c) ≡ (a || (b || c))
or_both true b c = refl
or_both false b c = refl

-- a key is in some and these where it is in either
pub in_with : (m : Pairs) (ks : List Key) (k : Key) → contains_key (with_pairs m ks) k ≡ (contains_key m k || among k ks)
in_with m [] k = none (contains_key m k)
  where
    none : (a : Bool) → a ≡ (a || false)
    none true = refl
    none false = refl
in_with m (j ∷ ks) k =
    in_with (insert m j tt) ks k
    ∙ ap (λ b. b || among k ks) (ap is_some (get-insert keys_total m j tt k) ∙ one (eq_by_cmp key_cmp k j) (get m k))
    ∙ or_both (contains_key m k) (eq_by_cmp key_cmp k j) (among k ks)
  where
    one : (b : Bool) (o : Option (Unit {0})) → is_some (cond b (Some tt) o) ≡ (is_some o || b)
    one true None = refl
    one true (Some x) = refl
    one false None = refl
    one false (Some x) = refl

-- one name more of a path
pub one_more_name : (m : Pairs) (p : PathRecord) (names : List (List ℕ)) (i : ℕ) (name : List ℕ) → i < length names
    → name ≡ get_or names i name
    → insert (with_pairs m (map (pair_of p) (take i names))) (pair_of p name) tt
    ≡ with_pairs m (map (pair_of p) (take (i + 1) names))
one_more_name m p names i name within is =
    sym (fold-append (λ (n : Pairs) k. insert n k tt) m (map (pair_of p) (take i names)) (pair_of p name ∷ []))
    ∙ ap (with_pairs m) (sym (ap (map (pair_of p))
    (take_more names i name within ∙ ap (λ y. take i names ++ y ∷ []) (sym is))
    ∙ map-append (pair_of p) (take i names) (name ∷ [])))

-- one record more
pub one_more_record : (m : Pairs) (r : Rec) (rs : List Rec)
    → with_pairs (with_pairs m (map key_of (online_by r))) (pairs_listed rs) ≡ with_pairs m (pairs_listed (r ∷ rs))
one_more_record m r rs =
    sym (ap (with_pairs m) (map-append key_of (online_by r) (flat_map online_by rs))
    ∙ fold-append (λ (n : Pairs) k. insert n k tt) m (map key_of (online_by r)) (pairs_listed rs))

-- ---- what the access lists say

names_online : (p : PathRecord) (names : List (List ℕ)) (rest : List Key) → filter is_online rest ≡ rest
    → filter is_online (map (pair_of p) names ++ rest) ≡ map (pair_of p) names ++ rest
names_online p [] rest all = all
names_online p (n ∷ ns) rest all = ap (λ ks. pair_of p n ∷ ks) (names_online p ns rest all)

-- the keys of a path's pairs
pub pairs_of_path : (p : PathRecord) → map key_of (online_by (path p)) ≡ map (pair_of p) p.access
pairs_of_path p = map-map key_of (λ (name : List ℕ). online (record { css = p.css; path = p.number; name = name })) p.access

-- all that are listed are pairs
all_online : (rs : List Rec) → filter is_online (pairs_listed rs) ≡ pairs_listed rs
all_online [] = refl
all_online (path p ∷ rs) =
    let parts = map-append key_of (online_by (path p)) (flat_map online_by rs)
    ∙ ap (λ ks. ks ++ pairs_listed rs) (pairs_of_path p) in
    ap (filter is_online) parts ∙ names_online p p.access (pairs_listed rs) (all_online rs) ∙ sym parts
all_online (id x ∷ rs) = all_online rs
all_online (resource x ∷ rs) = all_online rs
all_online (image x ∷ rs) = all_online rs
all_online (limit x ∷ rs) = all_online rs
all_online (unit x ∷ rs) = all_online rs
all_online (device x ∷ rs) = all_online rs
all_online (online x ∷ rs) = all_online rs

-- the keys of records with their keys
pub keys_of_records : (rs : List Rec) → map (λ (e : Key × Rec). e.0) (with_keys rs) ≡ map key_of rs
keys_of_records rs = map-map (λ (e : Key × Rec). e.0) (λ r. (key_of r, r)) rs

-- what is online by the access lists has these keys
pub by_lists : (c : Configuration) (k : Key)
    → is_some (get (online_by_lists c) k) ≡ list_any (eq_by_cmp key_cmp k) (pairs_listed (records_of c))
by_lists c k =
    let rs = flat_map online_by (records_of c) in
    ap is_some (get-from_entries keys_total (with_keys rs) k) ∙ is_some-find key_cmp k (with_keys rs)
    ∙ ap (list_any (eq_by_cmp key_cmp k)) (keys_of_records rs)

-- ---- the pairs of which the deck says otherwise

there : (b : Bool) (o : Option Rec) → is_some (cond b o None) ≡ (b && is_some o)
there true o = refl
there false o = refl

-- a key is in one alone of two maps
in_one : (a b : Option Rec)
    → not (option_eq (λ (x y : Rec). true) a b) ≡ ((is_some a && not (is_some b)) || (is_some b && not (is_some a)))
in_one None None = refl
in_one None (Some y) = refl
in_one (Some x) None = refl
in_one (Some x) (Some y) = refl

-- by whether a key is listed, which that of a pair alone is, and a record stands under it
apart : (listed there online : Bool)
    → (((listed && online) && not there) || (there && (online && not (listed && online))))
    ≡ (((listed && online) && not (online && there)) || ((online && there) && not (listed && online)))
apart true true true = refl
apart true true false = refl
apart true false true = refl
apart true false false = refl
apart false true true = refl
apart false true false = refl
apart false false true = refl
apart false false false = refl

-- those that are listed and not there, and those that are there and not listed
abbrev pub offline : Configuration → List Key → List Key
offline c listed = filter (λ pair. not (contains_key c pair)) listed

abbrev pub unlisted : Configuration → (Key → Bool) → List Key
unlisted c is_listed = filter (λ pair. is_online pair && not (is_listed pair)) (keys c)

module _ (c : Configuration) (listed : List Key) (is_listed : Key → Bool)
    (is : (k : Key) → is_listed k ≡ among k (pairs_listed (records_of c)))
    (same : (k : Key) → among k listed ≡ is_listed k) where
  among_both : (k : Key) → among k (offline c listed ++ unlisted c is_listed) ≡ among k (pairs_untold c)
  among_both k =
      let own : is_listed k ≡ (among k (pairs_listed (records_of c)) && is_online k) =
      is k ∙ ap (among k) (sym (all_online (records_of c)))
      ∙ any_filter keys_exact k (pairs_listed (records_of c)) is_online in
      let lists : is_some (get (online_by_lists c) k) ≡ (among k (pairs_listed (records_of c)) && is_online k) =
      by_lists c k ∙ sym (is k) ∙ own in
      let here : is_some (get (online_in c) k) ≡ (is_online k && contains_key c k) =
      ap is_some (get_retained keys_total keys_exact c is_online k) ∙ there (is_online k) (get c k) in
      list_any-append (eq_by_cmp key_cmp k) (offline c listed) (unlisted c is_listed)
      ∙ (λ i. (any_filter keys_exact k listed (λ pair. not (contains_key c pair))
      ∙ ap (λ b. b && not (contains_key c k)) (same k ∙ own)) i
      || (any_filter keys_exact k (keys c) (λ pair. is_online pair && not (is_listed pair))
      ∙ (λ j. sym (contains_key-keys c k) j && (is_online k && not (own j)))) i)
      ∙ apart (among k (pairs_listed (records_of c))) (contains_key c k) (is_online k)
      ∙ sym (in_differing keys_total keys_exact (λ a b. true) (online_by_lists c) (online_in c) k
      ∙ in_one (get (online_by_lists c) k) (get (online_in c) k)
      ∙ (λ i. (lists i && not (here i)) || (here i && not (lists i))))

  -- in order, these are the pairs of which the deck says otherwise
  pub untold_are : (untold : List Key) → IsStrictlySortedBy key_cmp untold
      → ((k : Key) → among k untold ≡ among k (offline c listed ++ unlisted c is_listed)) → untold ≡ pairs_untold c
  untold_are untold rise all = same_members key_cmp keys_total keys_exact untold (pairs_untold c) rise
      (differing_rise key_cmp (λ a b. true) (online_by_lists c) (online_in c)) (λ k. all k ∙ among_both k)

-- a key is in both of two maps or in none, exactly where the test fails
pub in_both : (a b : Option Rec) → is_some a ≡ is_some b → not (option_eq (λ (x y : Rec). true) a b) ≡ false
in_both None None same = refl
in_both None (Some y) same = cc
in_both (Some x) None same = cc
in_both (Some x) (Some y) same = refl

in_both_too : (a b : Option Rec) → not (option_eq (λ (x y : Rec). true) a b) ≡ false → is_some a ≡ is_some b
in_both_too None None same = refl
in_both_too None (Some y) same = cc
in_both_too (Some x) None same = cc
in_both_too (Some x) (Some y) same = refl

-- a list in which no key is found is empty
pub empty_is : (ks : List Key) → ((k : Key) → list_any (eq_by_cmp key_cmp k) ks ≡ false) → ks ≡ []
empty_is [] none = refl
empty_is (k ∷ ks) none =
    let found : list_any (eq_by_cmp key_cmp k) (k ∷ ks) ≡ true =
    ap (λ b. b || list_any (eq_by_cmp key_cmp k) ks) (ties_itself key_cmp keys_total k) in
    let no : true ≡ false = sym found ∙ none k in cc

nothing_untold : (c : Configuration) → keys (online_by_lists c) ≡ keys (online_in c) → pairs_untold c ≡ []
nothing_untold c same = empty_is (pairs_untold c) (λ k.
    in_differing keys_total keys_exact (λ a b. true) (online_by_lists c) (online_in c) k
    ∙ in_both (get (online_by_lists c) k) (get (online_in c) k)
    (contains_key-keys (online_by_lists c) k ∙ ap (list_any (eq_by_cmp key_cmp k)) same
    ∙ sym (contains_key-keys (online_in c) k)))

pub deck_says_all : DeckSaysAll
deck_says_all c same = ap (λ ks. canonical_deck c ++ flat_map (remark_line c) ks) (nothing_untold c same)
    ∙ append-nil (canonical_deck c)

pub only_a_deck_says_all : OnlyADeckSaysAll
only_a_deck_says_all c none =
    let lists = online_by_lists c in
    let there = online_in c in
    same_members key_cmp keys_total keys_exact (keys lists) (keys there)
    (keys_rise key_cmp (entries lists) (entries_sorted lists))
    (keys_rise key_cmp (entries there) (entries_sorted there))
    (λ k. sym (contains_key-keys lists k)
    ∙ in_both_too (get lists k) (get there k)
    (sym (in_differing keys_total keys_exact (λ a b. true) lists there k) ∙ ap (list_any (eq_by_cmp key_cmp k)) none)
    ∙ contains_key-keys there k)

-- In a configuration that was read of a deck exactly the pairs of the access lists are online.
use Rattle.std.proofs.Common.{◌≡◌, ℕ, Bool, true, false, cond, ◌||◌, List, [], ◌∷◌, ◌++◌, map, None, is_some, refl, sym}
use Rattle.std.proofs.Common.{ap, subst, ◌∙◌}
use Rattle.std.specs.FinMap.{get, entries, entries_sorted, keys, get-from_entries, contains_key-keys}
use Rattle.std.specs.FinMap.Entries.{is_some-find}
use Rattle.std.specs.List.{flat_map, list_any}
use Rattle.std.specs.Ordering.{eq_by_cmp}
use Rattle.std.proofs.lemmas.List.{append-nil}
use Rattle.iocm_types.specs.declared.key.Key.{Key}
use Rattle.iocm_types.specs.Key.{key_cmp}
use Rattle.iocm_types.specs.KeyOrder.{keys_total, keys_exact}
use Rattle.iocm_types.proofs.Found.{same_key}
use Rattle.iocm_model.specs.Machine.Record.{Rec, PathRecord, key_of, id, resource, image, limit, path, unit, device}
use Rattle.iocm_model.specs.Machine.Record.{online}
use Rattle.iocm_model.specs.Machine.Configuration.{Configuration, configuration_of, records_of, with_keys}
use Rattle.iocm_model.proofs.Maps.Cells.{get_retained, in_differing}
use Rattle.iocm_config.specs.OnlineLast.{is_online}
use Rattle.iocm_record_reader.specs.ChpidRecords.{online_to}
use Rattle.iocm_deck_writer.specs.Canonical.{canonical_deck}
use Rattle.iocm_round_trip.specs.Again.{deck_of}
use Rattle.iocm_round_trip.proofs.Keys.{is_of_its_deck}
use Rattle.iocm_types.proofs.InOrder.{keys_rise}
use Rattle.iocm_seats.proofs.Ordered.{same_members}
use Rattle.iocm_reports.specs.Deck.{online_by, online_by_lists, online_in, pairs_untold, remark_line}
use Rattle.iocm_reports.proofs.ListedPairs.{keys_of_records, empty_is, in_both}
use Rattle.iocm_difference_laws.specs.Accepted.{IsAcceptedDeck}
use Rattle.iocm_difference_laws.specs.Online.{AreOnlineByTheirLists, DeckOfADeckSaysAll}
use Rattle.iocm_difference_laws.proofs.AcceptedDecks.{read_of}

-- ---- a pair is in the deck of records exactly where their access lists have it

module _ (k : Key) where
  abbrev is_among : List Rec → Bool
  is_among records = list_any (eq_by_cmp key_cmp k) (map key_of records)

  other_by : (j : Key) (b : Bool) → eq_by_cmp key_cmp k j ≡ b → is_online k ≡ true → is_online j ≡ false → b ≡ false
  other_by j true tied pair off = let wrong : true ≡ false =
      sym pair ∙ ap is_online (same_key key_cmp keys_exact k j tied) ∙ off in cc
  other_by j false tied pair off = refl

  -- a record that isn't online has another key
  other : (r : Rec) (rest : Bool) → is_online k ≡ true → is_online (key_of r) ≡ false
      → (eq_by_cmp key_cmp k (key_of r) || rest) ≡ rest
  other r rest pair off = ap (λ b. b || rest) (other_by (key_of r) (eq_by_cmp key_cmp k (key_of r)) refl pair off)

  -- online records of one path stand in both
  pairs_of_one : (p : PathRecord) (names : List (List ℕ)) (xs ys : List Rec) → is_among xs ≡ is_among ys
      → is_among (map (online_to p.css p.number) names ++ xs)
      ≡ is_among (map (λ name. online (record { css = p.css; path = p.number; name = name })) names ++ ys)
  pairs_of_one p [] xs ys same = same
  pairs_of_one p (name ∷ names) xs ys same =
      ap (λ b. eq_by_cmp key_cmp k (key_of (online_to p.css p.number name)) || b) (pairs_of_one p names xs ys same)

  pairs_of_deck : (records : List Rec) → is_online k ≡ true
      → is_among (deck_of records) ≡ is_among (flat_map online_by records)
  pairs_of_deck [] pair = refl
  pairs_of_deck (path p ∷ rs) pair =
      other (path p) (is_among (map (online_to p.css p.number) p.access ++ deck_of rs)) pair refl
      ∙ pairs_of_one p p.access (deck_of rs) (flat_map online_by rs) (pairs_of_deck rs pair)
  pairs_of_deck (id x ∷ rs) pair = other (id x) (is_among (deck_of rs)) pair refl ∙ pairs_of_deck rs pair
  pairs_of_deck (resource x ∷ rs) pair = other (resource x) (is_among (deck_of rs)) pair refl ∙ pairs_of_deck rs pair
  pairs_of_deck (image x ∷ rs) pair = other (image x) (is_among (deck_of rs)) pair refl ∙ pairs_of_deck rs pair
  pairs_of_deck (limit x ∷ rs) pair = other (limit x) (is_among (deck_of rs)) pair refl ∙ pairs_of_deck rs pair
  pairs_of_deck (unit x ∷ rs) pair = other (unit x) (is_among (deck_of rs)) pair refl ∙ pairs_of_deck rs pair
  pairs_of_deck (device x ∷ rs) pair = other (device x) (is_among (deck_of rs)) pair refl ∙ pairs_of_deck rs pair
  pairs_of_deck (online x ∷ rs) pair = pairs_of_deck rs pair

  -- a key of another kind isn't in access lists
  no_pair_by : (j : Key) (b rest : Bool) → eq_by_cmp key_cmp k j ≡ b → is_online k ≡ false → is_online j ≡ true
      → rest ≡ false → (b || rest) ≡ false
  no_pair_by j true rest tied off pair none = let wrong : false ≡ true =
      sym off ∙ ap is_online (same_key key_cmp keys_exact k j tied) ∙ pair in cc
  no_pair_by j false rest tied off pair none = none

  none_of_one : (p : PathRecord) (names : List (List ℕ)) (ys : List Rec) → is_online k ≡ false → is_among ys ≡ false
      → is_among (map (λ name. online (record { css = p.css; path = p.number; name = name })) names ++ ys) ≡ false
  none_of_one p [] ys off none = none
  none_of_one p (name ∷ names) ys off none =
      let pair = key_of (online_to p.css p.number name) in
      no_pair_by pair (eq_by_cmp key_cmp k pair) _ refl off refl (none_of_one p names ys off none)

  none_listed : (records : List Rec) → is_online k ≡ false → is_among (flat_map online_by records) ≡ false
  none_listed [] off = refl
  none_listed (path p ∷ rs) off = none_of_one p p.access (flat_map online_by rs) off (none_listed rs off)
  none_listed (id x ∷ rs) off = none_listed rs off
  none_listed (resource x ∷ rs) off = none_listed rs off
  none_listed (image x ∷ rs) off = none_listed rs off
  none_listed (limit x ∷ rs) off = none_listed rs off
  none_listed (unit x ∷ rs) off = none_listed rs off
  none_listed (device x ∷ rs) off = none_listed rs off
  none_listed (online x ∷ rs) off = none_listed rs off

  -- a key is there where a record has it
  there_of : (records : List Rec) → is_some (get (configuration_of records) k) ≡ is_among records
  there_of records = ap is_some (get-from_entries keys_total (with_keys records) k)
      ∙ is_some-find key_cmp k (with_keys records)
      ∙ ap (list_any (eq_by_cmp key_cmp k)) (keys_of_records records)

-- ---- in a configuration that is that of its deck

module _ (c : Configuration) (own : configuration_of (deck_of (records_of c)) ≡ c) where
  listed_by : (k : Key) (b : Bool) → is_online k ≡ b
      → is_among k (flat_map online_by (records_of c)) ≡ is_some (cond b (get c k) None)
  listed_by k true pair =
      sym (pairs_of_deck k (records_of c) pair) ∙ sym (there_of k (deck_of (records_of c)))
      ∙ ap (λ (d : Configuration). is_some (get d k)) own
  listed_by k false off = none_listed k (records_of c) off

  there_in_both : (k : Key) → is_some (get (online_by_lists c) k) ≡ is_some (get (online_in c) k)
  there_in_both k = there_of k (flat_map online_by (records_of c)) ∙ listed_by k (is_online k) refl
      ∙ sym (ap is_some (get_retained keys_total keys_exact c is_online k))

  same_pairs : keys (online_by_lists c) ≡ keys (online_in c)
  same_pairs =
      let lists = online_by_lists c in
      let there = online_in c in
      same_members key_cmp keys_total keys_exact (keys lists) (keys there)
      (keys_rise key_cmp (entries lists) (entries_sorted lists))
      (keys_rise key_cmp (entries there) (entries_sorted there))
      (λ k. sym (contains_key-keys lists k) ∙ there_in_both k ∙ contains_key-keys there k)

  none_untold : pairs_untold c ≡ []
  none_untold = empty_is (pairs_untold c) (λ k.
      in_differing keys_total keys_exact (λ a b. true) (online_by_lists c) (online_in c) k
      ∙ in_both (get (online_by_lists c) k) (get (online_in c) k) (there_in_both k))

-- ---- of a deck

of_its_deck : (bytes : List ℕ) (d : Configuration) → IsAcceptedDeck bytes d
    → configuration_of (deck_of (records_of d)) ≡ d
of_its_deck bytes d is =
    let read = read_of bytes d is in
    subst (λ (c : Configuration). configuration_of (deck_of (records_of c)) ≡ c) read.own
    (is_of_its_deck bytes read.records read.are_read)

pub are_online_by_their_lists : AreOnlineByTheirLists
are_online_by_their_lists bytes d is = same_pairs d (of_its_deck bytes d is)

pub deck_of_a_deck_says_all : DeckOfADeckSaysAll
deck_of_a_deck_says_all bytes d is =
    ap (λ pairs. canonical_deck d ++ flat_map (remark_line d) pairs) (none_untold d (of_its_deck bytes d is))
    ∙ append-nil (canonical_deck d)

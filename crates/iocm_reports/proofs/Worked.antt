-- The comments on pairs of a configuration whose records are listed in the order of keys, computed.
use Rattle.std.proofs.Common.{◌≡◌, not, ◌&&◌, List, [], ◌∷◌, ◌++◌, map, filter, T, refl, sym, ap, ◌∙◌}
use Rattle.std.specs.Fmt.{char_count, digits, padded_integral}
use Rattle.std.specs.List.{flat_map}
use Rattle.std.specs.List.Sorted.{IsStrictlySortedBy}
use Rattle.std.specs.FinMap.{entries, keys, contains_key, same_map, contains_key-keys, get-from_entries}
use Rattle.std.specs.FinMap.{get-from_sorted, entries-from_sorted}
use Rattle.std.specs.FinMap.Entries.{is_sorted}
use Rattle.json.specs.Print.{escape_byte}
use Rattle.iocm_types.specs.declared.key.Key.{Key}
use Rattle.iocm_types.specs.Key.{key_cmp}
use Rattle.iocm_types.specs.KeyOrder.{keys_total, keys_exact}
use Rattle.iocm_types.proofs.Entries.{values_keyed}
use Rattle.iocm_model.specs.Machine.Configuration.{Configuration, configuration_of, records_of, with_keys}
use Rattle.iocm_model.specs.Machine.Record.{Rec, key_of}
use Rattle.iocm_config.specs.OnlineLast.{is_online}
use Rattle.iocm_reports.specs.Deck.{line_by, pairs_listed, pairs_untold, remark_line}
use Rattle.iocm_reports.specs.Examples.{some_configuration, some_records, LinesOfJson, LinesOfRows, RemarksOnPairs}
use Rattle.iocm_reports.specs.Lines.{row_lines}
use Rattle.iocm_reports.proofs.ListedPairs.{among, keys_of_records, offline, unlisted, untold_are}

-- of listed records: the pairs of access lists that aren't there, and those that are there and in
-- no access list
abbrev untold_by : List Rec → List Key
untold_by rs = filter (λ p. not (among p (map key_of rs))) (pairs_listed rs)
    ++ filter (λ p. is_online p && not (among p (pairs_listed rs))) (map key_of rs)

module _ (rs : List Rec) (up : T (is_sorted key_cmp (with_keys rs))) where
  abbrev c : Configuration
  c = configuration_of rs

  in_order : entries c ≡ with_keys rs
  in_order = ap entries (same_map keys_total keys_exact _ _
      (λ q. get-from_entries keys_total (with_keys rs) q ∙ sym (get-from_sorted key_cmp (with_keys rs) q up)))
      ∙ entries-from_sorted key_cmp (with_keys rs) up

  records_are : records_of c ≡ rs
  records_are = ap (map (λ (e : Key × Rec). e.1)) in_order ∙ values_keyed key_of rs

  keys_are : keys c ≡ map key_of rs
  keys_are = ap (map (λ (e : Key × Rec). e.0)) in_order ∙ keys_of_records rs

  there_is : (k : Key) → contains_key c k ≡ among k (map key_of rs)
  there_is k = contains_key-keys c k ∙ ap (among k) keys_are

  untold_is : offline c (pairs_listed (records_of c)) ++ unlisted c (λ k. among k (pairs_listed (records_of c)))
      ≡ untold_by rs
  untold_is = λ i. filter (λ p. not (there_is p i)) (pairs_listed (records_are i))
      ++ filter (λ p. is_online p && not (among p (pairs_listed (records_are i)))) (keys_are i)

  untold_listed : IsStrictlySortedBy key_cmp (untold_by rs) → pairs_untold c ≡ untold_by rs
  untold_listed rise = sym (untold_are c (pairs_listed (records_of c)) (λ k. among k (pairs_listed (records_of c)))
      (λ k. refl) (λ k. refl) (untold_by rs) rise (λ k. ap (among k) (sym untold_is)))

  lines_listed : (ks : List Key) → flat_map (remark_line c) ks ≡ flat_map (λ k. line_by (among k (map key_of rs)) k) ks
  unfolding remark_line
  lines_listed [] = refl
  lines_listed (k ∷ ks) = (λ i. line_by (there_is k i) k ++ lines_listed ks i)

rise_here : IsStrictlySortedBy key_cmp (untold_by some_records)
unfolding IsStrictlySortedBy
rise_here = ((refl, (refl, tt)), ((refl, tt), (tt, tt)))

pub remarks_on_pairs : RemarksOnPairs
unfolding char_count digits padded_integral
remarks_on_pairs = ap (flat_map (remark_line some_configuration)) (untold_listed some_records tt rise_here)
    ∙ lines_listed some_records tt (untold_by some_records)

pub lines_of_rows : LinesOfRows
unfolding char_count digits padded_integral row_lines lib.Utf8.encode
lines_of_rows = refl

pub lines_of_json : LinesOfJson
unfolding char_count digits padded_integral escape_byte
lines_of_json = refl

-- Each cell of a row is a word, so the tables are read again.
use Rattle.std.proofs.Common.{◌≡◌, ℕ, Bool, true, false, cond, Option, None, Some, List, [], ◌∷◌, ◌++◌, map}
use Rattle.std.proofs.Common.{filter, codes, refl, ap, ◌∙◌, arith}
use Rattle.std.proofs.lemmas.Bool.{and_parts, and_from}
use Rattle.std.specs.Prelude.{fold, not}
use Rattle.std.specs.FinMap.Entries.{by_order}
use Rattle.std.specs.List.{list_all}
use Rattle.std.specs.declared.cmp.Ordering.{Ordering}
use Rattle.std.specs.declared.cmp.Ordering.TheVariants.{Less, Equal, Greater}
use Rattle.iocm_types.specs.declared.path_kind.PathKind.{PathKind}
use Rattle.iocm_types.specs.declared.path_kind.PathKind.TheVariants.{Dedicated, Shared, Reconfigurable}
use Rattle.iocm_types.specs.Name.{is_name}
use Rattle.iocm_types.specs.Print.{hex2, hex4}
use Rattle.iocm_model.specs.Machine.Configuration.{Configuration}
use Rattle.iocm_model.specs.Machine.Record.{PathRecord}
use Rattle.iocm_values.specs.NameSet.{name_cmp, with_name}
use Rattle.iocm_words.specs.Again.{is_row, is_word}
use Rattle.iocm_words.specs.Ranges.{devices_word, range_word}
use Rattle.iocm_words.specs.Words.{carried_word, word_of}
use Rattle.iocm_words.proofs.CellWords.{cells_are_words}
use Rattle.iocm_words.proofs.Reading.{tables_again}
use Rattle.iocm_words.proofs.Wording.{Inside, Word, hex2_word, is_word_if, word_before, word_behind, word_is}
use Rattle.iocm_list.specs.declared.path_row.PathRow.{PathRow}
use Rattle.iocm_list.specs.declared.path_row.PathTexts.{PathTexts}
use Rattle.iocm_list.specs.declared.unit_row.UnitRow.{UnitRow}
use Rattle.iocm_list.specs.Again.{PathTableIsReadAgain, UnitTableIsReadAgain, lists_names}
use Rattle.iocm_list.specs.Cells.{adapter_word, channel_word, cuadd_word, path_cells, path_columns, port_part}
use Rattle.iocm_list.specs.Cells.{unit_cells, unit_columns, use_word, virtual_word}
use Rattle.iocm_sight.specs.Connected.{paths_of}
use Rattle.iocm_list.specs.PathRows.{has_online, is_path_wanted, path_row, path_rows, users_of}
use Rattle.iocm_list.specs.UnitRows.{unit_rows}

-- ---- lists of which all pass a test

module _ {A B : Type 0} where
  pub all_map : (test : B → Bool) (of : A → Bool) (f : A → B) → ((x : A) → of x ≡ true → test (f x) ≡ true)
      → (xs : List A) → list_all of xs ≡ true → list_all test (map f xs) ≡ true
  all_map test of f so [] all = refl
  all_map test of f so (x ∷ xs) all = let both = and_parts (of x) (list_all of xs) all in
      and_from (test (f x)) (list_all test (map f xs)) (so x both.0) (all_map test of f so xs both.1)

  pub each_map : (test : B → Bool) (f : A → B) → ((x : A) → test (f x) ≡ true) → (xs : List A)
      → list_all test (map f xs) ≡ true
  each_map test f so [] = refl
  each_map test f so (x ∷ xs) = and_from (test (f x)) (list_all test (map f xs)) (so x) (each_map test f so xs)

pub all_filter : {A : Type 0} (of kept : A → Bool) (xs : List A) → list_all of xs ≡ true
    → list_all of (filter kept xs) ≡ true
all_filter of kept [] all = refl
all_filter of kept (x ∷ xs) all = let both = and_parts (of x) (list_all of xs) all in
    by (kept x) both.0 (all_filter of kept xs both.1)
  where
    by : (b : Bool) → of x ≡ true → list_all of (filter kept xs) ≡ true
        → list_all of (cond b (x ∷ filter kept xs) (filter kept xs)) ≡ true
    by true first rest = and_from (of x) (list_all of (filter kept xs)) first rest
    by false first rest = rest

-- ---- the names of a path

with_names : (names : List (List ℕ)) (name : List ℕ) → list_all is_name names ≡ true → is_name name ≡ true
    → list_all is_name (with_name names name) ≡ true
with_names [] name all is = and_from (is_name name) true is refl
with_names (n ∷ ns) name all is = let both = and_parts (is_name n) (list_all is_name ns) all in
    by (name_cmp name n) both.0 (with_names ns name both.1 is)
  where
    by : (r : Ordering) → is_name n ≡ true → list_all is_name (with_name ns name) ≡ true
        → list_all is_name (by_order r (name ∷ n ∷ ns) (n ∷ ns) (n ∷ with_name ns name)) ≡ true
    by Less first rest = and_from (is_name name) (list_all is_name (n ∷ ns)) is all
    by Equal first rest = all
    by Greater first rest = and_from (is_name n) (list_all is_name (with_name ns name)) first rest

all_names : (front names : List (List ℕ)) → list_all is_name front ≡ true → list_all is_name names ≡ true
    → list_all is_name (fold with_name front names) ≡ true
all_names front [] here all = here
all_names front (n ∷ ns) here all = let both = and_parts (is_name n) (list_all is_name ns) all in
    all_names (with_name front n) ns (with_names front n here both.0) both.1

-- names are words
names_word : (names : List (List ℕ)) → list_all is_name names ≡ true → list_all is_word names ≡ true
names_word [] all = refl
names_word (n ∷ ns) all = let both = and_parts (is_name n) (list_all is_name ns) all in
    and_from (is_word n) (list_all is_word ns) (cells_are_words.name n both.0) (names_word ns both.1)

users_word : (p : PathRecord) (kept : List ℕ → Bool) → lists_names p ≡ true
    → list_all is_word (filter kept (users_of p)) ≡ true
users_word p kept all = names_word (filter kept (users_of p))
    (all_filter is_name kept (users_of p) (all_names [] (p.access ++ p.candidates) refl all))

-- ---- cells

text_word : (text : List ℕ) → Word (word_of text)
text_word text = word_is (word_of text) (cells_are_words.carried (Some text))

port_inside : (port : Option (List ℕ)) → Inside (port_part port)
port_inside None = refl
port_inside (Some port) = (word_behind (codes "/") (word_of port) refl (text_word port)).inside

adapter_is : (aid port : Option (List ℕ)) → Word (adapter_word aid port)
adapter_is None port = word_is (carried_word None) (cells_are_words.carried None)
adapter_is (Some aid) port = word_before (codes "AID=" ++ word_of aid) (port_part port)
    (word_behind (codes "AID=") (word_of aid) refl (text_word aid)) (port_inside port)

virtual_is : (vchid : Option (List ℕ)) (other : List ℕ) → Word other → Word (virtual_word vchid other)
virtual_is None other is = is
virtual_is (Some vchid) other is = word_behind (codes "VCHID=") (word_of vchid) refl (text_word vchid)

channel_by : (t : PathTexts) (pchid : Option (List ℕ)) → t.pchid ≡ pchid → is_word (channel_word t) ≡ true
channel_by t None is = ap (λ (o : Option (List ℕ)). is_word (channel_word (record t { pchid = o }))) is
    ∙ is_word_if _ (virtual_is t.vchid (adapter_word t.aid t.port) (adapter_is t.aid t.port))
channel_by t (Some pchid) is = ap (λ (o : Option (List ℕ)). is_word (channel_word (record t { pchid = o }))) is
    ∙ cells_are_words.carried (Some pchid)

use_is : (kind : PathKind) → is_word (use_word kind) ≡ true
use_is Dedicated = refl
use_is Shared = refl
use_is Reconfigurable = refl

cuadd_is : (cuadd : Option ℕ) → is_word (cuadd_word cuadd) ≡ true
cuadd_is None = refl
cuadd_is (Some cuadd) = is_word_if (hex2 cuadd) (hex2_word cuadd)

pub units_word : (units : List ℕ) → list_all is_word (map hex4 units) ≡ true
units_word units = each_map is_word hex4 cells_are_words.unit units

path_is_row : (c : Configuration) (p : PathRecord) → lists_names p ≡ true
    → is_row path_columns (path_cells (path_row c p)) ≡ true
path_is_row c p all = let r = path_row c p in
    and_from _ _ (cells_are_words.path r.css r.number)
    (and_from _ _ (cells_are_words.carried r.texts.channel_type)
    (and_from _ _ (channel_by r.texts r.texts.pchid refl)
    (and_from _ _ (cells_are_words.carried r.texts.switch)
    (and_from _ _ (use_is r.kind)
    (and_from _ _ (cells_are_words.count r.devices)
    (and_from _ _ (cells_are_words.commas r.online (users_word p (has_online c p) all))
    (and_from _ _ (cells_are_words.commas r.offline (users_word p (λ name. not (has_online c p name)) all))
    (and_from _ _ (cells_are_words.commas (map hex4 r.units) (units_word r.units)) refl))))))))

unit_is_row : (r : UnitRow) → is_row unit_columns (unit_cells r) ≡ true
unit_is_row r =
    and_from _ _ (cells_are_words.unit r.number)
    (and_from _ _ (cells_are_words.carried r.unit_type)
    (and_from _ _ (cuadd_is r.cuadd)
    (and_from _ _ (cells_are_words.commas (map range_word r.addresses)
    (each_map is_word range_word cells_are_words.range r.addresses))
    (and_from _ _ (cells_are_words.paths r.paths)
    (and_from _ _ (cells_are_words.count r.devices)
    (and_from _ _ (cells_are_words.commas (map devices_word r.ranges)
    (each_map is_word devices_word cells_are_words.devices r.ranges))
    refl))))))

-- ---- tables

pub path_table_again : PathTableIsReadAgain
path_table_again w c names = tables_again path_columns (map path_cells (path_rows w c)) (record {
  columns_there = omega arith;
  words = all_map (is_row path_columns) (λ (r : PathRow). is_row path_columns (path_cells r)) path_cells (λ r is. is)
      (path_rows w c)
      (all_map (λ (r : PathRow). is_row path_columns (path_cells r)) lists_names (path_row c) (path_is_row c)
      (filter (is_path_wanted w c) (paths_of c))
      (all_filter lists_names (is_path_wanted w c) (paths_of c) names));
})

pub unit_table_again : UnitTableIsReadAgain
unit_table_again w c = tables_again unit_columns (map unit_cells (unit_rows w c)) (record {
  columns_there = omega arith;
  words = each_map (is_row unit_columns) unit_cells unit_is_row (unit_rows w c);
})

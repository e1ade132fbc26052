-- Each operand, as it is written, names no several channel subsystems in one word; and PATH of
-- CHPID names one path.
use Rattle.std.proofs.Common.{◌≡◌, ℕ, ◌+◌, ◌^◌, ◌<◌, ◌≤◌, ◌==◌, not, nat_le, Bool, true, false, cond, Option, Some}
use Rattle.std.proofs.Common.{None, List, [], ◌∷◌, ◌++◌, All, map, filter, length, refl, ap, ◌∙◌, arith, append_assoc}
use Rattle.std.specs.Prelude.{count_by, codes}
use Rattle.std.specs.Fmt.{decimal}
use Rattle.std.specs.List.{find, flat_map, range_with_len}
use Rattle.std.specs.Option.{option_map_or}
use Rattle.std.specs.Str.{bytes_eq}
use Rattle.std.proofs.lemmas.Bool.{and_left, and_right}
use Rattle.std.proofs.lemmas.Bool.Decides.{nat_tests}
use Rattle.std.proofs.lemmas.List.Elements.{All-nil, All-cons, All-head, All-tail, All-append, All-map, All-filter}
use Rattle.std.proofs.lemmas.List.Elements.{All-weaker}
use Rattle.iocm_types.specs.declared.css_path.CssPath.{CssPath}
use Rattle.iocm_types.specs.declared.link.CssLink.{CssLink}
use Rattle.iocm_types.specs.declared.link.Link.{Link}
use Rattle.iocm_types.specs.declared.link.Link.TheVariants as link
use Rattle.iocm_types.specs.declared.unit_range.UnitRange.{UnitRange}
use Rattle.iocm_types.specs.Name.{is_name}
use Rattle.iocm_types.specs.Print.{hex1, hex2, hex4}
use Rattle.iocm_model.specs.Machine.Record.{ImageRecord, LimitRecord}
use Rattle.iocm_model.specs.Machine.Numbering.{subsystems}
use Rattle.iocm_statements.specs.Nesting.{start}
use Rattle.iocm_values.specs.declared.texts.CssText.{CssText}
use Rattle.iocm_values.specs.Digits.{is_number, is_hex_digit}
use Rattle.iocm_values.specs.NameSet.{names_text}
use Rattle.iocm_values.specs.Texts.{list_text, css_text, texts_in, group_texts, by_css_text}
use Rattle.iocm_values.specs.ItemWords.{item_words}
use Rattle.iocm_values.specs.Words.{ended, words_from, words}
use Rattle.iocm_values.proofs.ItemWordsAmong.{fewer_in_items}
use Rattle.iocm_keywords.specs.LeftOut.{is_path_word, names_several_paths}
use Rattle.iocm_operands.specs.declared.device.Devices.{Devices}
use Rattle.iocm_operands.specs.Again.{IsPath, IsRange, IsNameSet, AreDevices, IsWithinDigits, IsLink, IsImage, IsLimit}
use Rattle.iocm_operands.specs.ChpidPath.{path_text}
use Rattle.iocm_operands.specs.ChpidPartition.{rec_texts, partition_text}
use Rattle.iocm_operands.specs.Device.{devices_text, units_text}
use Rattle.iocm_operands.specs.Limits.{is_limit_at, place_text, count_places, places_in, limits_text}
use Rattle.iocm_operands.specs.Resource.{image_text, images_text}
use Rattle.iocm_operands.specs.Unit.{path_item_text, paths_text, range_text, ranges_text, link_text, link_item_text}
use Rattle.iocm_operands.specs.Unit.{links_text}
use Rattle.iocm_values.proofs.Numerals.{hex1_plain, hex2_plain, hex4_plain, decimal_is}
use Rattle.iocm_operands.proofs.Grouped.{AreCss, all_css, all_small}
use Rattle.iocm_operands.proofs.Names.{name_plain}
use Rattle.iocm_round_trip.proofs.LeftOut.{no_two, comma_ends, list_ends, all_ends, list_begins, css_is_word}
use Rattle.iocm_round_trip.proofs.LeftOut.{plain_is_word, IsWord, IsInOneCss, plain_in_one, css_in_one, list_in_one}

-- ---- numbers and names

pub hex1_in_one : (n : ℕ) → n < 16 → IsInOneCss (hex1 n)
hex1_in_one n small = plain_in_one (hex1 n) (hex1_plain n small)

pub hex2_in_one : (n : ℕ) → n < 256 → IsInOneCss (hex2 n)
hex2_in_one n small = plain_in_one (hex2 n) (hex2_plain n small)

pub hex4_in_one : (n : ℕ) → n < 65536 → IsInOneCss (hex4 n)
hex4_in_one n small = plain_in_one (hex4 n) (hex4_plain n small)

decimal_in_one : (n : ℕ) → n < 2 ^ 64 → IsInOneCss (decimal n)
decimal_in_one n small = let is = decimal_is n small in plain_in_one (decimal n) is.plain

-- an item and another one
pair_in_one : (a b : List ℕ) → IsInOneCss a → IsInOneCss b → IsInOneCss (list_text (a ∷ b ∷ []))
pair_in_one a b first second =
    list_in_one (a ∷ b ∷ [])
    (All-cons IsInOneCss a (b ∷ []) first (All-cons IsInOneCss b [] second (All-nil IsInOneCss)))

-- texts of items
each_in_one : {X : Type 0} (text : X → List ℕ) (P : X → Type 0) → ((x : X) → P x → IsInOneCss (text x)) → (xs : List X)
    → All P xs → All IsInOneCss (map text xs)
each_in_one text P in_one xs all = All-map IsInOneCss text xs (All-weaker P (λ x. IsInOneCss (text x)) in_one xs all)

pub names_in_one : (names : List (List ℕ)) → All (λ name. is_name name ≡ true) names → IsInOneCss (names_text names)
names_in_one [] are = plain_in_one (codes "0") refl
names_in_one (name ∷ names) are =
    list_in_one (name ∷ names)
    (All-weaker (λ n. is_name n ≡ true) IsInOneCss (λ n is. plain_in_one n (name_plain n is)) (name ∷ names) are)

-- ---- lists by channel subsystem

-- items whose texts don't
abbrev pub AreInOneCss : List CssText → Type 0
AreInOneCss items = All (λ (i : CssText). IsInOneCss i.text) items

texts_in_one : (items : List CssText) → AreInOneCss items → (css : ℕ) → All IsInOneCss (texts_in items css)
texts_in_one items are css =
    All-map IsInOneCss (λ (i : CssText). i.text) (filter (λ (i : CssText). i.css == css) items)
    (All-filter (λ (i : CssText). i.css == css) (λ (i : CssText). IsInOneCss i.text) items are)

group_in_one : (css : ℕ) → css < 6 → (texts : List (List ℕ)) → All IsInOneCss texts → (none : Bool)
    → All IsInOneCss (cond none [] (list_text (css_text css ∷ texts) ∷ []))
group_in_one css small texts are true = All-nil IsInOneCss
group_in_one css small texts are false =
    All-cons IsInOneCss (list_text (css_text css ∷ texts)) []
    (list_in_one (css_text css ∷ texts) (All-cons IsInOneCss (css_text css) texts (css_in_one css (omega arith)) are))
    (All-nil IsInOneCss)

groups_in_one : (items : List CssText) → AreInOneCss items → (all : List ℕ) → AreCss all
    → All IsInOneCss (flat_map (group_texts items) all)
groups_in_one items are [] small = All-nil IsInOneCss
groups_in_one items are (css ∷ all) small =
    All-append IsInOneCss (group_texts items css) (flat_map (group_texts items) all)
    (group_in_one css small.0 (texts_in items css) (texts_in_one items are css) (length (texts_in items css) == 0))
    (groups_in_one items are all small.1)

pub by_css_in_one : (items : List CssText) → AreInOneCss items → IsInOneCss (by_css_text items)
by_css_in_one items are = list_in_one (flat_map (group_texts items) all_css) (groups_in_one items are all_css all_small)

-- items by channel subsystem, each with a text of its own
items_in_one : {X : Type 0} (item : X → CssText) (P : X → Type 0) → ((x : X) → P x → IsInOneCss (item x).text)
    → (xs : List X) → All P xs
    → IsInOneCss (by_css_text (map item xs))
items_in_one item P in_one xs all =
    by_css_in_one (map item xs)
    (All-map (λ (i : CssText). IsInOneCss i.text) item xs
    (All-weaker P (λ x. IsInOneCss (item x).text) in_one xs all))

-- ---- CHPID

pub path_in_one : (p : CssPath) → IsPath p → IsInOneCss (path_text p)
path_in_one p is = pair_in_one (css_text p.css) (hex2 p.path) (css_in_one p.css (let small = is.css in omega arith))
    (hex2_in_one p.path is.path)

rec_in_one : (rec : Bool) → All IsInOneCss (rec_texts rec)
rec_in_one true = All-cons IsInOneCss (codes "REC") [] (plain_in_one (codes "REC") refl) (All-nil IsInOneCss)
rec_in_one false = All-nil IsInOneCss

pub partition_in_one : (access candidates : List (List ℕ)) (rec : Bool) → IsNameSet access → IsNameSet candidates
    → IsInOneCss (partition_text access candidates rec)
partition_in_one access candidates rec first second =
    list_in_one (names_text access ∷ names_text candidates ∷ rec_texts rec)
    (All-cons IsInOneCss (names_text access) (names_text candidates ∷ rec_texts rec) (names_in_one access first.each)
    (All-cons IsInOneCss (names_text candidates) (rec_texts rec) (names_in_one candidates second.each)
    (rec_in_one rec)))

-- ---- CNTLUNIT

pub paths_in_one : (paths : List CssPath) → All IsPath paths → IsInOneCss (paths_text paths)
paths_in_one paths are = items_in_one path_item_text IsPath (λ p is. hex2_in_one p.path is.path) paths are

range_in_one : (r : UnitRange) → IsRange r → IsInOneCss (range_text r)
range_in_one r is = pair_in_one (hex2 r.start) (decimal r.count) (hex2_in_one r.start is.start)
    (decimal_in_one r.count (let most = is.most in omega arith))

pub ranges_in_one : (ranges : List UnitRange) → All IsRange ranges → IsInOneCss (ranges_text ranges)
ranges_in_one ranges are = list_in_one (map range_text ranges) (each_in_one range_text IsRange range_in_one ranges are)

link_in_one : (l : Link) → IsWithinDigits l → IsInOneCss (link_text l)
link_in_one link.None within = plain_in_one (codes "**") refl
link_in_one (link.Short n) within = hex2_in_one n within
link_in_one (link.Long n) within = hex4_in_one n within

pub links_in_one : (links : List CssLink) → All IsLink links → IsInOneCss (links_text links)
links_in_one links are = items_in_one link_item_text IsLink (λ l is. link_in_one l.link is.link) links are

-- ---- IODEVICE

pub devices_in_one : (d : Devices) → AreDevices d → IsInOneCss (devices_text d)
devices_in_one d are =
    let some = are.some in let most = are.most in let last = are.last in
    pair_in_one (hex4 d.first) (decimal d.count) (hex4_in_one d.first (omega arith))
    (decimal_in_one d.count (omega arith))

pub units_in_one : (units : List ℕ) → All (λ unit. unit ≤ 65534) units → IsInOneCss (units_text units)
units_in_one units small =
    list_in_one (map hex4 units)
    (each_in_one hex4 (λ unit. unit ≤ 65534) (λ unit is. hex4_in_one unit (omega arith)) units small)

-- ---- RESOURCE

image_in_one : (i : ImageRecord) → IsImage i → IsInOneCss (image_text i).text
image_in_one i is =
    pair_in_one i.name (hex1 i.mif) (plain_in_one i.name (name_plain i.name is.name))
    (hex1_in_one i.mif (let most = is.most in omega arith))

pub images_in_one : (images : List ImageRecord) → All IsImage images → IsInOneCss (images_text images)
images_in_one images are = items_in_one image_text IsImage image_in_one images are

found_is : (P : LimitRecord → Type 0) (test : LimitRecord → Bool) (ls : List LimitRecord) → All P ls → (l : LimitRecord)
    → find test ls ≡ Some l → P l
found_is P test [] all l found = cc
found_is P test (m ∷ ls) all l found = by (test m) found (found_is P test ls (All-tail P m ls all) l)
  where
    by : (b : Bool) → cond b (Some m) (find test ls) ≡ Some l → (find test ls ≡ Some l → P l) → P l
    by true e later = let same : m ≡ l = cc in rw same at (All-head P m ls all)
    by false e later = later e

limit_in_one : (found : Option LimitRecord) → ((l : LimitRecord) → found ≡ Some l → IsLimit l)
    → IsInOneCss (option_map_or (λ (l : LimitRecord). decimal l.limit) found [])
limit_in_one None is = plain_in_one [] refl
limit_in_one (Some l) is = let limit = (is l refl).limit in decimal_in_one l.limit (omega arith)

places_in_one : (limits : List LimitRecord) → All IsLimit limits → (all : List ℕ)
    → AreInOneCss (flat_map (places_in limits) all)
places_in_one limits are [] = All-nil (λ (i : CssText). IsInOneCss i.text)
places_in_one limits are (css ∷ all) =
    All-append (λ (i : CssText). IsInOneCss i.text) (places_in limits css) (flat_map (places_in limits) all)
    (All-map (λ (i : CssText). IsInOneCss i.text) (place_text limits css) (range_with_len 0 (count_places limits css))
    (λ k d within. limit_in_one (find (is_limit_at css _) limits) (found_is IsLimit (is_limit_at css _) limits are)))
    (places_in_one limits are all)

pub limits_in_one : (limits : List LimitRecord) → All IsLimit limits → IsInOneCss (limits_text limits)
limits_in_one limits are = by_css_in_one (flat_map (places_in limits) subsystems) (places_in_one limits are subsystems)

-- ---- one path

-- the words of a list of two
two_words : (a b : List ℕ) → IsWord a → IsWord b → words (list_text (a ∷ b ∷ [])) ≡ ended a (ended b [])
two_words a b first second =
    list_begins ((a ++ 44 ∷ b) ++ 41 ∷ []) ∙ ap (words_from start []) (append_assoc a (44 ∷ b) (41 ∷ []))
    ∙ first (44 ∷ (b ++ 41 ∷ [])) ∙ comma_ends a (b ++ 41 ∷ [])
    ∙ ap (ended a) (second (41 ∷ []) ∙ list_ends b [] ∙ ap (ended b) (all_ends (41 ∷ [])))

one_counts : (kind : List ℕ → Bool) (a b : List ℕ) → kind a ≡ false
    → nat_le 2 (count_by kind (ended a (ended b []))) ≡ false
one_counts kind a b other = by (bytes_eq a (codes ")")) (bytes_eq b (codes ")"))
  where
    by : (drops_a drops_b : Bool)
        → nat_le 2 (count_by kind (cond drops_a (cond drops_b [] (b ∷ [])) (a ∷ cond drops_b [] (b ∷ [])))) ≡ false
    by true true = refl
    by true false = no_two (kind b)
    by false true = no_two (kind a)
    by false false = ap (λ is. nat_le 2 (0 + cond is 1 0 + cond (kind b) 1 0)) other ∙ no_two (kind b)

css_is_no_path : (n : ℕ) → is_path_word (css_text n) ≡ false
css_is_no_path n = and_left (is_number is_hex_digit (css_text n)) (nat_le (length (css_text n)) 2)
    (and_right (not (length (css_text n) == 0)) false refl)

-- no more than fewer than two
no_more : (few many : ℕ) → few ≤ many → nat_le 2 many ≡ false → nat_le 2 few ≡ false
no_more few many fewer none = grind (arith, nat_tests)

pub names_one_path : (p : CssPath) → IsPath p → names_several_paths (path_text p) ≡ false
names_one_path p is =
    no_more (count_by is_path_word (item_words (path_text p))) (count_by is_path_word (words (path_text p)))
    (fewer_in_items is_path_word (path_text p))
    (ap (λ ws. nat_le 2 (count_by is_path_word ws))
    (two_words (css_text p.css) (hex2 p.path) (css_is_word p.css (let small = is.css in omega arith))
    (plain_is_word (hex2 p.path) (hex2_plain p.path is.path)))
    ∙ one_counts is_path_word (css_text p.css) (hex2 p.path) (css_is_no_path p.css))

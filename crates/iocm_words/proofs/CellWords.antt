-- Each cell is a word.
use Rattle.std.proofs.Common.{◌≡◌, ℕ, ◌+◌, ◌-◌, ◌==◌, ◌&&◌, Bool, true, false, cond, Option, None, Some, List, []}
use Rattle.std.proofs.Common.{◌∷◌, ◌++◌, length, map, fold, codes, refl, ap, ◌∙◌, arith}
use Rattle.std.specs.Prelude.{filter}
use Rattle.std.specs.Fmt.{decimal}
use Rattle.std.specs.List.{flat_map, join_with_byte, list_all}
use Rattle.std.specs.Str.{bytes_eq}
use Rattle.std.proofs.Math.Dec.{eqb-suc-zero}
use Rattle.std.proofs.lemmas.Bool.{and_parts, and_from}
use Rattle.std.proofs.lemmas.Bool.Decides.{nat_tests}
use Rattle.std.proofs.lemmas.List.Folds.{list_all-append}
use Rattle.iocm_types.specs.declared.link.Link.{Link}
use Rattle.iocm_types.specs.declared.link.Link.TheVariants.{Short, Long}
use Rattle.iocm_types.specs.declared.link.Link.TheVariants.{None as Unlinked}
use Rattle.iocm_types.specs.Name.{is_letter_or_digit, is_name}
use Rattle.iocm_types.specs.Print.{hex1, hex2, hex4}
use Rattle.iocm_words.specs.declared.groups.Member.{Member}
use Rattle.iocm_words.specs.declared.images.ImagePaths.{ImagePaths}
use Rattle.iocm_words.specs.declared.paths.LinkedPath.{LinkedPath}
use Rattle.iocm_words.specs.declared.ranges.DeviceNumbers.{DeviceNumbers}
use Rattle.iocm_words.specs.declared.ranges.SetNumbers.{SetNumbers}
use Rattle.iocm_words.specs.Again.{is_inside, is_word}
use Rattle.iocm_words.specs.CellWords.{CellsAreWords, have_names}
use Rattle.iocm_words.specs.Groups as groups
use Rattle.iocm_words.specs.Images as images
use Rattle.iocm_words.specs.Paths as paths
use Rattle.iocm_words.specs.Ranges.{from_to, range_word, devices_word, set_word}
use Rattle.iocm_words.specs.Words.{nothing, underlined, word_of, carried_word, joined_word, comma_word, path_word}
use Rattle.iocm_words.proofs.Wording.{Inside, Word, word_is, is_word_if, weaker, inside_both, word_before}
use Rattle.iocm_words.proofs.Wording.{word_behind, decimal_word, hex1_word, hex2_word, hex4_word}

-- a byte in front of a text
inside_behind : (b : ℕ) (text : List ℕ) → is_inside b ≡ true → Inside text → Inside (b ∷ text)
inside_behind b text is inside = and_from (is_inside b) (list_all is_inside text) is inside

-- ---- carried texts, lists, names

underlined_inside : (b : ℕ) → is_inside (underlined b) ≡ true
underlined_inside b = grind (arith, nat_tests)

all_underlined : (text : List ℕ) → Inside (map underlined text)
all_underlined [] = refl
all_underlined (b ∷ text) =
    inside_behind (underlined b) (map underlined text) (underlined_inside b) (all_underlined text)

nothing_word : Word nothing
nothing_word = record { some = refl; inside = refl }

word_of_word : (text : List ℕ) → Word (word_of text)
word_of_word [] = nothing_word
word_of_word (b ∷ text) =
    let is : word_of (b ∷ text) ≡ map underlined (b ∷ text) =
    ap (λ none. cond none nothing (map underlined (b ∷ text))) (eqb-suc-zero (length text)) in
    record {
      some = ap (λ t. length t == 0) is ∙ eqb-suc-zero (length (map underlined text));
      inside = ap (list_all is_inside) is ∙ all_underlined (b ∷ text);
    }

carried_is : (text : Option (List ℕ)) → Word (carried_word text)
carried_is None = nothing_word
carried_is (Some text) = word_of_word text

joined_some : (byte : ℕ) (word : List ℕ) (words : List (List ℕ)) → is_inside byte ≡ true
    → list_all is_word (word ∷ words) ≡ true → Word (join_with_byte byte (word ∷ words))
joined_some byte word [] is all = word_is word (and_parts (is_word word) true all).0
joined_some byte word (next ∷ words) is all =
    let both = and_parts (is_word word) (list_all is_word (next ∷ words)) all in
    word_before word (byte ∷ join_with_byte byte (next ∷ words)) (word_is word both.0)
    (inside_behind byte (join_with_byte byte (next ∷ words)) is (joined_some byte next words is both.1).inside)

joined_is : (byte : ℕ) (words : List (List ℕ)) → is_inside byte ≡ true → list_all is_word words ≡ true
    → Word (joined_word byte words)
joined_is byte [] is all = nothing_word
joined_is byte (word ∷ words) is all =
    let whole = joined_some byte word words is all in
    let e : joined_word byte (word ∷ words) ≡ join_with_byte byte (word ∷ words) =
    ap (λ none. cond none nothing (join_with_byte byte (word ∷ words))) (eqb-suc-zero (length words)) in
    record { some = ap (λ t. length t == 0) e ∙ whole.some; inside = ap (list_all is_inside) e ∙ whole.inside }

-- what is joined, where it may be nothing
joined_inside : (byte : ℕ) (words : List (List ℕ)) → is_inside byte ≡ true → list_all is_word words ≡ true
    → Inside (join_with_byte byte words)
joined_inside byte [] is all = refl
joined_inside byte (word ∷ words) is all = (joined_some byte word words is all).inside

letter_inside : (b : ℕ) → is_letter_or_digit b ≡ true → is_inside b ≡ true
letter_inside b is = grind (arith, nat_tests)

name_is : (name : List ℕ) → is_name name ≡ true → Word name
name_is [] is = cc
name_is (b ∷ name) is =
    let letters = (and_parts _ _ (and_parts _ _ (and_parts _ _ is).0).0).1 in
    record {
      some = eqb-suc-zero (length name);
      inside = weaker is_letter_or_digit is_inside (b ∷ name) letter_inside letters;
    }

-- ---- numbers

path_is : (css path : ℕ) → Word (path_word css path)
path_is css path = word_before (hex1 css) (46 ∷ hex2 path) (hex1_word css)
    (inside_behind 46 (hex2 path) refl (hex2_word path).inside)

from_to_is : (hex : ℕ → List ℕ) → ((n : ℕ) → Word (hex n)) → (first last : ℕ) → Word (from_to hex first last)
from_to_is hex words first last = by (first == last)
  where
    by : (one : Bool) → Word (cond one (hex first) (hex first ++ (45 ∷ hex last)))
    by true = words first
    by false = word_before (hex first) (45 ∷ hex last) (words first)
        (inside_behind 45 (hex last) refl (words last).inside)

devices_are : (d : DeviceNumbers) → Word (devices_word d)
devices_are d = by (d.set == 0) (from_to_is hex4 hex4_word d.first d.last)
  where
    by : (first_set : Bool) → Word (from_to hex4 d.first d.last)
        → Word (cond first_set (from_to hex4 d.first d.last) (hex1 d.set ++ (46 ∷ from_to hex4 d.first d.last)))
    by true numbers = numbers
    by false numbers = word_before (hex1 d.set) (46 ∷ from_to hex4 d.first d.last) (hex1_word d.set)
        (inside_behind 46 (from_to hex4 d.first d.last) refl numbers.inside)

set_is : (n : SetNumbers) → Word (set_word n)
set_is n =
    word_before (hex1 n.set) (58 ∷ (decimal n.used ++ (47 ∷ decimal n.limit))) (hex1_word n.set)
    (inside_behind 58 (decimal n.used ++ (47 ∷ decimal n.limit)) refl
    (inside_both (decimal n.used) (47 ∷ decimal n.limit) (decimal_word n.used).inside
    (inside_behind 47 (decimal n.limit) refl (decimal_word n.limit).inside)))

-- ---- groups

-- a member whose word is a word, and whose group has bytes of words alone
abbrev is_fit : Member → Bool
is_fit m = is_word m.word && list_all is_inside m.group

words_fit : (members : List Member) (group : List ℕ) → list_all is_fit members ≡ true
    → list_all is_word (groups.words_in members group) ≡ true
words_fit [] group fit = refl
words_fit (m ∷ members) group fit =
    let both = and_parts (is_fit m) (list_all is_fit members) fit in
    let own = and_parts (is_word m.word) (list_all is_inside m.group) both.0 in
    by (bytes_eq m.group group) own.0 (words_fit members group both.1)
  where
    by : (kept : Bool) → is_word m.word ≡ true → list_all is_word (groups.words_in members group) ≡ true
        → list_all is_word (map (λ (o : Member). o.word)
        (cond kept (m ∷ filter (λ (o : Member). bytes_eq o.group group) members)
        (filter (λ (o : Member). bytes_eq o.group group) members))) ≡ true
    by true first rest = and_from (is_word m.word) (list_all is_word (groups.words_in members group)) first rest
    by false first rest = rest

abbrev are_inside : List (List ℕ) → Bool
are_inside texts = list_all (λ text. list_all is_inside text) texts

groups_fit : (found : List (List ℕ)) (members : List Member) → are_inside found ≡ true → list_all is_fit members ≡ true
    → are_inside (fold (λ f (m : Member). groups.with_group f m.group) found members) ≡ true
groups_fit found [] inside fit = inside
groups_fit found (m ∷ members) inside fit =
    let both = and_parts (is_fit m) (list_all is_fit members) fit in
    let own = and_parts (is_word m.word) (list_all is_inside m.group) both.0 in
    groups_fit (groups.with_group found m.group) members (by (groups.is_among found m.group) own.1) both.1
  where
    by : (there : Bool) → Inside m.group → are_inside (cond there found (found ++ m.group ∷ [])) ≡ true
    by true own = inside
    by false own =
        list_all-append (λ text. list_all is_inside text) found (m.group ∷ []) ∙ rw (inside, own) refl

-- ---- paths

link_inside : (link : Option Link) → Inside (paths.link_part link)
link_inside None = refl
link_inside (Some Unlinked) = refl
link_inside (Some (Short n)) = inside_behind 47 (hex2 n) refl (hex2_word n).inside
link_inside (Some (Long n)) = inside_behind 47 (hex4 n) refl (hex4_word n).inside

linked_is : (p : LinkedPath) → Word (paths.linked_word p)
linked_is p = word_before (hex2 p.path) (paths.link_part p.link) (hex2_word p.path) (link_inside p.link)

all_linked : (ps : List LinkedPath) → list_all is_word (map paths.linked_word ps) ≡ true
all_linked [] = refl
all_linked (p ∷ ps) =
    and_from (is_word (paths.linked_word p)) (list_all is_word (map paths.linked_word ps))
    (is_word_if (paths.linked_word p) (linked_is p)) (all_linked ps)

-- a channel subsystem with its paths
abbrev with_paths : List LinkedPath → ℕ → Member
with_paths ps css = record { word = hex1 css; group = join_with_byte 44 (paths.words_in ps css) }

member_fits : (ps : List LinkedPath) (css : ℕ) → list_all is_fit (paths.member_of ps css) ≡ true
member_fits ps css = by (length (paths.words_in ps css) == 0)
  where
    by : (none : Bool) → list_all is_fit (cond none [] (with_paths ps css ∷ [])) ≡ true
    by true = refl
    by false = rw (
      is_word_if (hex1 css) (hex1_word css),
      joined_inside 44 (paths.words_in ps css) refl (all_linked (filter (λ (p : LinkedPath). p.css == css) ps)),
    ) refl

members_fit : (ps : List LinkedPath) (numbers : List ℕ) → list_all is_fit (flat_map (paths.member_of ps) numbers) ≡ true
members_fit ps [] = refl
members_fit ps (css ∷ numbers) =
    list_all-append is_fit (paths.member_of ps css) (flat_map (paths.member_of ps) numbers)
    ∙ rw (member_fits ps css, members_fit ps numbers) refl

-- a text behind a colon
colon_before : (text : List ℕ) → Inside text → Word (58 ∷ text)
colon_before text inside =
    record { some = eqb-suc-zero (length text); inside = inside_behind 58 text refl inside }

path_groups : (members : List Member) (texts : List (List ℕ)) → list_all is_fit members ≡ true → are_inside texts ≡ true
    → list_all is_word (map (paths.group_word members) texts) ≡ true
path_groups members [] fit inside = refl
path_groups members (text ∷ texts) fit inside =
    let both = and_parts (list_all is_inside text) (are_inside texts) inside in
    let front = join_with_byte 44 (groups.words_in members text) in
    and_from (is_word (paths.group_word members text)) (list_all is_word (map (paths.group_word members) texts))
    (is_word_if (front ++ (58 ∷ text))
    (word_behind front (58 ∷ text)
    (joined_inside 44 (groups.words_in members text) refl (words_fit members text fit))
    (colon_before text both.0)))
    (path_groups members texts fit both.1)

paths_are : (ps : List LinkedPath) → Word (paths.paths_word ps)
paths_are ps =
    let members = paths.members_of ps in
    let fit : list_all is_fit members ≡ true = members_fit ps (0 ∷ 1 ∷ 2 ∷ 3 ∷ 4 ∷ 5 ∷ []) in
    joined_is 59 (map (paths.group_word members) (groups.groups_of members)) refl
    (path_groups members (groups.groups_of members) fit (groups_fit [] members refl fit))

-- ---- images

counts_inside : (i : ImagePaths) → Inside (images.counts_word i)
counts_inside i =
    inside_both (decimal i.online) (47 ∷ decimal i.installed) (decimal_word i.online).inside
    (inside_behind 47 (decimal i.installed) refl (decimal_word i.installed).inside)

images_fit : (is : List ImagePaths) → have_names is → list_all is_fit (images.members_of is) ≡ true
images_fit [] names = refl
images_fit (i ∷ is) names =
    let both = and_parts (is_name i.name) (list_all (λ (o : ImagePaths). is_name o.name) is) names in
    rw (is_word_if i.name (name_is i.name both.0), counts_inside i, images_fit is both.1) refl

group_is : (text word : List ℕ) → Inside text → Inside word → Word (text ++ (58 ∷ word))
group_is text word first second = word_behind text (58 ∷ word) first (colon_before word second)

image_groups : (members : List Member) (texts : List (List ℕ)) → list_all is_fit members ≡ true
    → are_inside texts ≡ true
    → list_all is_word (map (images.group_word members) texts) ≡ true
image_groups members [] fit inside = refl
image_groups members (text ∷ texts) fit inside =
    let both = and_parts (list_all is_inside text) (are_inside texts) inside in
    and_from (is_word (images.group_word members text)) (list_all is_word (map (images.group_word members) texts))
    (is_word_if (images.group_word members text)
    (group_is text (join_with_byte 44 (groups.words_in members text)) both.0
    (joined_inside 44 (groups.words_in members text) refl (words_fit members text fit))))
    (image_groups members texts fit both.1)

images_are : (is : List ImagePaths) → have_names is → Word (images.images_word is)
images_are is names =
    let members = images.members_of is in
    let fit = images_fit is names in
    joined_is 59 (map (images.group_word members) (groups.groups_of members)) refl
    (image_groups members (groups.groups_of members) fit (groups_fit [] members refl fit))

all_or_is : (texts : List (List ℕ)) (named : List ℕ) → are_inside texts ≡ true → Word named
    → Word (images.all_or texts named)
all_or_is [] named inside word = word
all_or_is (text ∷ []) named inside word =
    group_is text (codes "all") (and_parts (list_all is_inside text) true inside).0 refl
all_or_is (text ∷ other ∷ texts) named inside word = word

all_images_are : (is : List ImagePaths) → have_names is → Word (images.all_images_word is)
all_images_are is names =
    let members = images.members_of is in
    all_or_is (groups.groups_of members) (images.images_word is) (groups_fit [] members refl (images_fit is names))
    (images_are is names)

pub cells_are_words : CellsAreWords
cells_are_words = record {
  carried = λ text. is_word_if (carried_word text) (carried_is text);
  commas = λ words all. is_word_if (comma_word words) (joined_is 44 words refl all);
  count = λ n. is_word_if (decimal n) (decimal_word n);
  name = λ name is. is_word_if name (name_is name is);
  path = λ css path. is_word_if (path_word css path) (path_is css path);
  unit = λ unit. is_word_if (hex4 unit) (hex4_word unit);
  addresses = λ first last. is_word_if (from_to hex2 first last) (from_to_is hex2 hex2_word first last);
  range = λ r. is_word_if (range_word r) (from_to_is hex2 hex2_word r.start (r.start + r.count - 1));
  devices = λ d. is_word_if (devices_word d) (devices_are d);
  numbers = λ n. is_word_if (set_word n) (set_is n);
  paths = λ ps. is_word_if (paths.paths_word ps) (paths_are ps);
  images = λ is names. is_word_if (images.images_word is) (images_are is names);
  all_images = λ is names. is_word_if (images.all_images_word is) (all_images_are is names);
}

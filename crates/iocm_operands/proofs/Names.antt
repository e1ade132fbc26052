-- Names that are written are read again: as candidates, and as the lists of PARTITION.
use Rattle.std.proofs.Common.{◌≡◌, ℕ, ◌==◌, ◌&&◌, Bool, true, false, Some, None, List, [], ◌∷◌, ◌++◌, All, map, get_or}
use Rattle.std.proofs.Common.{take, nat_eq, codes, refl, sym, ap, ◌∙◌, arith, append_assoc, append-nil}
use Rattle.std.proofs.lemmas.Bool.{and_parts, and_right}
use Rattle.std.proofs.lemmas.Bool.Decides.{nat_tests}
use Rattle.std.proofs.lemmas.List.Elements.{All-head, All-tail}
use Rattle.std.specs.List.{list_all, filter_map, join_with_byte}
use Rattle.std.specs.Option.{option_map}
use Rattle.std.specs.Str.{bytes_eq}
use Rattle.iocm_types.specs.Name.{is_letter, is_letter_or_digit, begins_with_letter, is_name, name_of}
use Rattle.iocm_statements.specs.Nesting.{start, is_outside, step}
use Rattle.iocm_values.specs.CssLists.{begins_with_css, is_css, css_number}
use Rattle.iocm_values.specs.NameSet.{name_set, name_item, names_of, names_text}
use Rattle.iocm_values.specs.Reading.{◌>>=◌, every}
use Rattle.iocm_values.specs.Value.{Value, word, list, value}
use Rattle.iocm_values.specs.Words.{ended, ends_word, words_from, words}
use Rattle.iocm_operands.specs.Again.{IsNameSet, ReadsCandidatesAgain, ReadsPartitionAgain}
use Rattle.iocm_operands.specs.ChpidPartition as partition
use Rattle.iocm_operands.specs.Device as device
use Rattle.iocm_values.proofs.Levels.{plain_again, list_again, values_again, items_again, whole_items}
use Rattle.iocm_values.proofs.Pieces.{IsWhole, AllWhole, is_plain, whole_plain}

-- ---- a name

first_of_four : (a b c d : Bool) → (a && b && c && d) ≡ true → a ≡ true
first_of_four true b c d e = refl
first_of_four false b c d e = e

second_of_four : (a b c d : Bool) → (a && b && c && d) ≡ true → b ≡ true
second_of_four a true c d e = refl
second_of_four true false c d e = e
second_of_four false false c d e = e

pub letter_first : (name : List ℕ) → is_name name ≡ true → begins_with_letter name ≡ true
letter_first name is = first_of_four _ _ _ _ is

letters_and_digits : (name : List ℕ) → is_name name ≡ true → list_all is_letter_or_digit name ≡ true
letters_and_digits name is = second_of_four (begins_with_letter name) _ _ _ is

letter_plain : (b : ℕ) → is_letter_or_digit b ≡ true → is_plain b ≡ true
letter_plain b is = grind (arith, nat_tests)

letters_plain : (text : List ℕ) → list_all is_letter_or_digit text ≡ true → list_all is_plain text ≡ true
letters_plain [] are = refl
letters_plain (b ∷ text) are =
    let parts = and_parts (is_letter_or_digit b) (list_all is_letter_or_digit text) are in
    rw (letter_plain b parts.0, letters_plain text parts.1) refl

pub name_plain : (name : List ℕ) → is_name name ≡ true → list_all is_plain name ≡ true
name_plain name is = letters_plain name (letters_and_digits name is)

letter_other : (b : ℕ) → is_letter b ≡ true → (b == 48 ≡ false) × (b == 61 ≡ false)
letter_other b is = (grind (arith, nat_tests), grind (arith, nat_tests))

-- a text that begins with a letter is neither `0` nor `=`
zero_not : (text : List ℕ) → begins_with_letter text ≡ true → bytes_eq text (codes "0") ≡ false
zero_not [] first = refl
zero_not (b ∷ text) first = rw (letter_other b first).0 refl

same_not : (text : List ℕ) → begins_with_letter text ≡ true → bytes_eq text (codes "=") ≡ false
same_not [] first = refl
same_not (b ∷ text) first = rw (letter_other b first).1 refl

plain_other : (b : ℕ) → is_plain b ≡ true → (b == 40 ≡ false) × (b == 41 ≡ false)
plain_other b plain = (grind (arith, nat_tests), grind (arith, nat_tests))

third_not : (x y z : Bool) → (x && (y && (z && false))) ≡ false
third_not x y z = and_right x (y && (z && false)) (and_right y (z && false) (and_right z false refl))

fourth_not : (x y z w : Bool) → w ≡ false → (x && (y && (z && (w && true)))) ≡ false
fourth_not x y z w other = rw other (third_not x y z)

-- a plain text is no CSS(..)
css_begins_not : (text : List ℕ) → list_all is_plain text ≡ true → bytes_eq (take 4 text) (codes "CSS(") ≡ false
css_begins_not [] plain = refl
css_begins_not (a ∷ []) plain = and_right (nat_eq a 67) false refl
css_begins_not (a ∷ b ∷ []) plain = third_not true (nat_eq a 67) (nat_eq b 83)
css_begins_not (a ∷ b ∷ c ∷ []) plain = third_not (nat_eq a 67) (nat_eq b 83) (nat_eq c 83)
css_begins_not (a ∷ b ∷ c ∷ d ∷ text) plain =
    let rest = (and_parts (is_plain c) (list_all is_plain (d ∷ text))
    (and_parts (is_plain b) _ (and_parts (is_plain a) _ plain).1).1).1 in
    let other : d == 40 ≡ false = (plain_other d (and_parts (is_plain d) (list_all is_plain text) rest).0).0 in
    fourth_not (nat_eq a 67) (nat_eq b 83) (nat_eq c 83) (nat_eq d 40) other

pub plain_no_css : (text : List ℕ) → list_all is_plain text ≡ true → css_number text ≡ None
plain_no_css text plain = rw (css_begins_not text plain) refl

pub plain_is_no_css : (text : List ℕ) → list_all is_plain text ≡ true → is_css text ≡ false
plain_is_no_css text plain = rw (css_begins_not text plain) refl

pub name_again : (name : List ℕ) → is_name name ≡ true → name_of name ≡ Some name
name_again name is = rw is refl

-- ---- words

plain_goes_on : (b : ℕ) → is_plain b ≡ true → (ends_word b ≡ false) × ((b == 40) ≡ false) × (step start b ≡ Some start)
unfolding step
plain_goes_on b plain = (grind (arith, nat_tests), grind (arith, nat_tests), grind (arith, nat_tests))

byte_goes_on : (text : List ℕ) (b : ℕ) (rest : List ℕ) → is_plain b ≡ true
    → words_from start text (b ∷ rest) ≡ words_from start (text ++ b ∷ []) rest
unfolding words_from is_outside
byte_goes_on text b rest plain =
    let on = plain_goes_on b plain in
    rw (on.0, on.1, on.2) refl

plain_goes_in : (text plain rest : List ℕ) → list_all is_plain plain ≡ true
    → words_from start text (plain ++ rest) ≡ words_from start (text ++ plain) rest
plain_goes_in text [] rest is = ap (λ t. words_from start t rest) (sym (append-nil text))
plain_goes_in text (b ∷ bs) rest is =
    let parts = and_parts (is_plain b) (list_all is_plain bs) is in
    byte_goes_on text b (bs ++ rest) parts.0 ∙ plain_goes_in (text ++ b ∷ []) bs rest parts.1
    ∙ ap (λ t. words_from start t rest) (append_assoc text (b ∷ []) bs)

comma_ends : (text rest : List ℕ) → words_from start text (44 ∷ rest) ≡ ended text (words_from start [] rest)
unfolding words_from is_outside
comma_ends text rest = refl

all_ends : (text : List ℕ) → words_from start text [] ≡ ended text []
unfolding words_from
all_ends text = refl

plain_is_word : (text : List ℕ) (others : List (List ℕ)) → list_all is_plain text ≡ true
    → ended text others ≡ text ∷ others
plain_is_word [] others plain = refl
plain_is_word (b ∷ text) others plain =
    rw (plain_other b (and_parts (is_plain b) (list_all is_plain text) plain).0).1 refl

abbrev AllPlain : List (List ℕ) → Type 0
AllPlain texts = All (λ text. list_all is_plain text ≡ true) texts

words_again : (x : List ℕ) (xs : List (List ℕ)) → AllPlain (x ∷ xs) → words (join_with_byte 44 (x ∷ xs)) ≡ x ∷ xs
words_again x [] plain =
    let is : list_all is_plain x ≡ true = All-head (λ text. list_all is_plain text ≡ true) x [] plain in
    ap words (sym (append-nil x)) ∙ plain_goes_in [] x [] is ∙ all_ends x ∙ plain_is_word x [] is
words_again x (y ∷ ys) plain =
    let is : list_all is_plain x ≡ true = All-head (λ text. list_all is_plain text ≡ true) x (y ∷ ys) plain in
    let others : AllPlain (y ∷ ys) = All-tail (λ text. list_all is_plain text ≡ true) x (y ∷ ys) plain in
    plain_goes_in [] x (44 ∷ join_with_byte 44 (y ∷ ys)) is ∙ comma_ends x (join_with_byte 44 (y ∷ ys))
    ∙ ap (ended x) (words_again y ys others) ∙ plain_is_word x (y ∷ ys) is

-- ---- names

abbrev AreNames : List (List ℕ) → Type 0
AreNames names = All (λ name. is_name name ≡ true) names

names_plain : (names : List (List ℕ)) → AreNames names → AllPlain names
names_plain names are = λ k d within. name_plain (get_or names k d) (are k d within)

names_whole : (names : List (List ℕ)) → AreNames names → AllWhole names
names_whole [] are = tt
names_whole (name ∷ names) are = (
  whole_plain name (name_plain name (All-head (λ n. is_name n ≡ true) name names are)),
  names_whole names (All-tail (λ n. is_name n ≡ true) name names are),
)

-- a candidate

candidate_again : (name : List ℕ) → is_name name ≡ true → device.candidate_word name ≡ Some (Some name)
candidate_again name is =
    rw (zero_not name (letter_first name is), plain_no_css name (name_plain name is), name_again name is) refl

candidates_each : (names : List (List ℕ)) → AreNames names → every device.candidate_word names ≡ Some (map Some names)
unfolding every
candidates_each [] are = refl
candidates_each (name ∷ names) are =
    rw (
      candidate_again name (All-head (λ n. is_name n ≡ true) name names are),
      candidates_each names (All-tail (λ n. is_name n ≡ true) name names are),
    ) refl

all_kept : (names : List (List ℕ)) → filter_map (λ n. n) (map Some names) ≡ names
all_kept [] = refl
all_kept (name ∷ names) = ap (λ ns. name ∷ ns) (all_kept names)

pub candidates_again : ReadsCandidatesAgain
candidates_again [] is = refl
candidates_again (name ∷ names) is =
    let all : List (List ℕ) = name ∷ names in
    ap device.candidates_of (list_again (join_with_byte 44 all))
    ∙ ap (λ found. option_map (λ ns. name_set (filter_map (λ n. n) ns)) (every device.candidate_word found))
    (words_again name names (names_plain all is.each))
    ∙ ap (option_map (λ ns. name_set (filter_map (λ n. n) ns))) (candidates_each all is.each)
    ∙ ap (λ ns. Some (name_set ns)) (all_kept all) ∙ ap Some is.ascending

-- ---- PARTITION of CHPID

-- the value is read as these names, and is neither `=`, nor REC, nor CSS(..)
record AreRead (names : List (List ℕ)) (v : Value) : Type 0 where
  pub listed : partition.names_listed v ≡ Some names
  pub form : partition.is_list_form v ≡ true
  pub same : partition.is_same_list v ≡ false
  pub rec : partition.is_rec v ≡ false
  pub css : (items : List Value) → begins_with_css (v ∷ items) ≡ false

name_item_again : (name : List ℕ) → is_name name ≡ true → name_item (value name) ≡ Some name
name_item_again name is = ap name_item (plain_again name (name_plain name is)) ∙ name_again name is

names_each : (names : List (List ℕ)) → AreNames names → every name_item (map value names) ≡ Some names
unfolding every
names_each [] are = refl
names_each (name ∷ names) are =
    rw (
      name_item_again name (All-head (λ n. is_name n ≡ true) name names are),
      names_each names (All-tail (λ n. is_name n ≡ true) name names are),
    ) refl

joined_first : (name : List ℕ) (names : List (List ℕ)) → begins_with_letter name ≡ true
    → begins_with_letter (join_with_byte 44 (name ∷ names)) ≡ true
joined_first [] names first = absurd (no first)
  where
    no : false ≡ true → ⊥
    no e = cc
joined_first (b ∷ name) [] first = first
joined_first (b ∷ name) (y ∷ ys) first = first

list_is_read : (name : List ℕ) (names : List (List ℕ)) → IsNameSet (name ∷ names)
    → AreRead (name ∷ names) (list (join_with_byte 44 (name ∷ names)))
list_is_read name names is =
    let inner : List ℕ = join_with_byte 44 (name ∷ names) in
    let first = joined_first name names (letter_first name (All-head (λ n. is_name n ≡ true) name names is.each)) in
    record {
      listed = rw (zero_not inner first)
          (ap (λ found. found >>= names_of) (values_again name names (names_whole (name ∷ names) is.each))
          ∙ ap (option_map name_set) (names_each (name ∷ names) is.each) ∙ ap Some is.ascending);
      form = refl;
      same = same_not inner first;
      rec = refl;
      css = λ items. refl;
    }

none_are_read : AreRead [] (word (codes "0"))
none_are_read = record { listed = refl; form = refl; same = refl; rec = refl; css = λ items. refl }

are_read : (names : List (List ℕ)) → IsNameSet names → AreRead names (value (names_text names))
are_read [] is = none_are_read
are_read (name ∷ names) is = rw (list_again (join_with_byte 44 (name ∷ names))) (list_is_read name names is)

no_group_alone : (css : ℕ) (a c : Value) (rest : List Value)
    → partition.without_groups css (a ∷ c ∷ rest) ≡ partition.without_group css (a ∷ c ∷ rest)
no_group_alone css (word text) c rest = refl
no_group_alone css (list inner) c rest = refl

ungrouped : (css : ℕ) (a c : Value) (rest : List Value) (access : List (List ℕ)) → AreRead access a
    → partition.without_groups css (a ∷ c ∷ rest) ≡ Some (a ∷ c ∷ rest)
ungrouped css a c rest access at = no_group_alone css a c rest ∙ rw (at.css (c ∷ rest)) refl

rec_again : (rec : Bool) (a c : Value) (candidates : List (List ℕ)) → AreRead candidates c
    → partition.with_rec (a ∷ c ∷ map value (partition.rec_texts rec)) ≡ partition.lists rec (a ∷ c ∷ [])
rec_again true a c candidates at = refl
rec_again false a c candidates at = rw at.rec refl

lists_again : (rec : Bool) (a c : Value) (access candidates : List (List ℕ)) → AreRead access a → AreRead candidates c
    → partition.lists rec (a ∷ c ∷ [])
    ≡ Some (record { access = access; candidates = Some candidates; is_reconfigurable = rec })
lists_again rec a c access candidates first second = rw (first.form, first.listed, second.same, second.listed) refl

partition_items : (css : ℕ) (rec : Bool) (a c : Value) (access candidates : List (List ℕ)) → AreRead access a
    → AreRead candidates c
    → (partition.without_groups css (a ∷ c ∷ map value (partition.rec_texts rec)) >>= partition.with_rec)
    ≡ Some (record { access = access; candidates = Some candidates; is_reconfigurable = rec })
partition_items css rec a c access candidates first second =
    ap (λ found. found >>= partition.with_rec) (ungrouped css a c (map value (partition.rec_texts rec)) access first)
    ∙ rec_again rec a c candidates second ∙ lists_again rec a c access candidates first second

names_text_whole : (names : List (List ℕ)) → AreNames names → IsWhole (names_text names)
names_text_whole [] are = whole_plain (codes "0") refl
names_text_whole (name ∷ names) are = whole_items (name ∷ names) (names_whole (name ∷ names) are)

rec_whole : (rec : Bool) → AllWhole (partition.rec_texts rec)
rec_whole true = (whole_plain (codes "REC") refl, tt)
rec_whole false = tt

pub partition_again : ReadsPartitionAgain
partition_again css access candidates rec first second =
    ap (λ found. found >>= partition.without_groups css >>= partition.with_rec)
    (items_again (names_text access) (names_text candidates ∷ partition.rec_texts rec)
    (names_text_whole access first.each, (names_text_whole candidates second.each, rec_whole rec)))
    ∙ partition_items css rec (value (names_text access)) (value (names_text candidates)) access candidates
    (are_read access first) (are_read candidates second)

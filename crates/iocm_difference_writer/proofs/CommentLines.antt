-- The cards of a comment: each is a line that is printable, short, and begins with *.
use Rattle.std.proofs.Common.{◌≡◌, ◌≢◌, ◌∙◌, ℕ, ◌≤◌, ◌+◌, ◌==◌, Bool, true, false, cond, List, [], ◌∷◌, ◌++◌, All}
use Rattle.std.proofs.Common.{length, map, replicate, refl, sym, ap, subst, append_assoc, length-append, arith}
use Rattle.std.proofs.Common.{eqb-true}
use Rattle.std.proofs.lemmas.Bool.{false≢true, and_parts}
use Rattle.std.proofs.lemmas.Grind.{flat_map-append}
use Rattle.std.proofs.lemmas.List.Elements.{All-head, All-tail}
use Rattle.std.specs.List.{AllByRecursion, flat_map, list_all}
use Rattle.iocm_columns.specs.declared.joined.Joined.{Joined}
use Rattle.iocm_columns.specs.Cards.{is_printable}
use Rattle.iocm_columns.specs.Written.{cut, cut_from, deck_bytes, name_columns, part_columns, statement_columns}
use Rattle.iocm_columns.specs.Written.{statement_lines}
use Rattle.iocm_columns.proofs.WrittenLines.{ArePrintable, both_printable}
use Rattle.iocm_columns.proofs.WrittenWords.{words_are_printable}
use Rattle.iocm_deck_writer.specs.Canonical.{to_write}
use Rattle.iocm_deck_writer.specs.Statement.{Statement}
use Rattle.iocm_round_trip.specs.Stating.{CanBeWritten}
use Rattle.iocm_round_trip.proofs.Columns.{statement_is_writable}
use Rattle.iocm_difference_writer.specs.Comments.{starred, starred_behind}

-- lines, each with its end
abbrev pub with_ends : List (List ℕ) → List ℕ
with_ends ls = flat_map (λ l. l ++ 10 ∷ []) ls

-- a line that begins with a blank
record IsBlankLine (line : List ℕ) : Type 0 where
  pub tail : List ℕ
  pub is : line ≡ 32 ∷ tail
  pub printable : ArePrintable tail
  pub short : length tail ≤ 71

abbrev AreBlankLines : List (List ℕ) → Type 0
AreBlankLines ls = AllByRecursion IsBlankLine ls

-- ---- how a text is cut in lines

-- a text from a column on: what stands in its line, and the lines behind it
record IsCut (column : ℕ) (bytes : List ℕ) : Type 0 where
  first : List ℕ
  more : List (List ℕ)
  is : cut_from column bytes ++ 10 ∷ [] ≡ first ++ 10 ∷ with_ends more
  printable : ArePrintable first
  short : length first + column ≤ 73
  others : AreBlankLines more

margin_tail : List ℕ
margin_tail = replicate 14 32

-- the byte of column 72 stands in a line of its own behind the margin
next_line : (b : ℕ) (bytes : List ℕ) → is_printable b ≡ true → IsCut 17 bytes → IsCut 72 (b ∷ bytes)
unfolding cut_from margin_tail
next_line b bytes is rest = record {
  first = 88 ∷ [];
  more = (32 ∷ (margin_tail ++ b ∷ rest.first)) ∷ rest.more;
  is = ap (λ x. 88 ∷ 10 ∷ 32 ∷ x)
      (ap (λ x. x ++ 10 ∷ []) (append_assoc margin_tail (b ∷ []) (cut_from 17 bytes))
      ∙ append_assoc margin_tail (b ∷ cut_from 17 bytes) (10 ∷ [])
      ∙ ap (λ x. margin_tail ++ b ∷ x) rest.is
      ∙ sym (append_assoc margin_tail (b ∷ rest.first) (10 ∷ with_ends rest.more))
      ∙ sym (append_assoc (margin_tail ++ b ∷ rest.first) (10 ∷ []) (with_ends rest.more)));
  printable = refl;
  short = omega arith;
  others = (
    record {
      tail = margin_tail ++ b ∷ rest.first;
      is = refl;
      printable = both_printable margin_tail (b ∷ rest.first) refl
          (both_printable (b ∷ []) rest.first (rw is refl) rest.printable);
      short = let room = rest.short in omega (arith, room, length-append margin_tail (b ∷ rest.first));
    },
    rest.others,
  );
}

same_line : (column b : ℕ) (bytes : List ℕ) → (column == 72) ≡ false → is_printable b ≡ true → IsCut (column + 1) bytes
    → IsCut column (b ∷ bytes)
unfolding cut_from
same_line column b bytes other is rest = record {
  first = b ∷ rest.first;
  more = rest.more;
  is = ap (λ t. (cond t (cut ++ b ∷ []) (b ∷ []) ++ cut_from (cond t 17 (column + 1)) bytes) ++ 10 ∷ []) other
      ∙ ap (λ x. b ∷ x) rest.is;
  printable = both_printable (b ∷ []) rest.first (rw is refl) rest.printable;
  short = let room = rest.short in omega (arith, room);
  others = rest.others;
}

cut_lines : (column : ℕ) (bytes : List ℕ) → column ≤ 72 → ArePrintable bytes → IsCut column bytes
unfolding cut_from
cut_lines column [] within are =
    record { first = []; more = []; is = refl; printable = refl; short = omega arith; others = tt }
cut_lines column (b ∷ bytes) within are =
    let both = and_parts (is_printable b) (list_all is_printable bytes) are in
    by (column == 72) refl both.0 (cut_lines 17 bytes (omega arith) both.1)
    (λ less. cut_lines (column + 1) bytes less both.1)
  where
    by : (last : Bool) → (column == 72) ≡ last → is_printable b ≡ true → IsCut 17 bytes
        → (column + 1 ≤ 72 → IsCut (column + 1) bytes) → IsCut column (b ∷ bytes)
    by true last is next here =
        subst (λ c. IsCut c (b ∷ bytes)) (sym (eqb-true column 72 last)) (next_line b bytes is next)
    by false last is next here =
        let other : column ≢ 72 = λ e. false≢true (sym last ∙ ap (λ c. c == 72) e) in
        same_line column b bytes last is (here (omega (arith, other)))

-- ---- the lines of a statement

part_printable : (text : List ℕ) → ArePrintable text → ArePrintable (part_columns text)
part_printable [] are = refl
part_printable (b ∷ text) are = both_printable (32 ∷ []) (b ∷ text) refl are

columns_printable : (s : Statement) → CanBeWritten s → ArePrintable (statement_columns (to_write s))
columns_printable s can =
    let w = statement_is_writable s can in
    let joined : Joined = to_write s in
    subst ArePrintable (append_assoc (name_columns joined.name) joined.operation (part_columns joined.text))
    (both_printable (name_columns joined.name ++ joined.operation) (part_columns joined.text)
    (words_are_printable joined w) (part_printable joined.text w.text))

-- lines that make a text
record IsInLines (text : List ℕ) : Type 0 where
  pub all : List (List ℕ)
  pub is : text ≡ with_ends all
  pub blank : AreBlankLines all

blank_first : (tail : List ℕ) → ArePrintable tail → IsInLines (cut_from 1 (32 ∷ tail) ++ 10 ∷ [])
unfolding cut_from
blank_first tail are =
    let rest = cut_lines 2 tail (omega arith) are in
    record {
      all = (32 ∷ rest.first) ∷ rest.more;
      is = ap (λ x. 32 ∷ x) (rest.is ∙ sym (append_assoc rest.first (10 ∷ []) (with_ends rest.more)));
      blank = (
        record {
          tail = rest.first;
          is = refl;
          printable = rest.printable;
          short = let room = rest.short in omega (arith, room);
        },
        rest.others,
      );
    }

-- the columns behind the first one, which is blank
columns_behind : Statement → List ℕ
columns_behind s = replicate 8 32 ++ ((to_write s).operation ++ part_columns (to_write s).text)

statement_in_lines : (s : Statement) → CanBeWritten s → IsInLines (statement_lines (to_write s))
unfolding columns_behind
statement_in_lines s can =
    blank_first (columns_behind s)
    (and_parts (is_printable 32) (list_all is_printable (columns_behind s)) (columns_printable s can)).1

both_in_lines : (a b : List ℕ) → IsInLines a → IsInLines b → IsInLines (a ++ b)
both_in_lines a b first second = record {
  all = first.all ++ second.all;
  is = ap (λ x. x ++ b) first.is ∙ ap (λ x. with_ends first.all ++ x) second.is
      ∙ sym (flat_map-append (λ (l : List ℕ). l ++ 10 ∷ []) first.all second.all);
  blank = blank_both first.all second.all first.blank second.blank;
}
  where
    blank_both : (xs ys : List (List ℕ)) → AreBlankLines xs → AreBlankLines ys → AreBlankLines (xs ++ ys)
    blank_both [] ys one other = other
    blank_both (x ∷ xs) ys one other = (one.0, blank_both xs ys one.1 other)

deck_in_lines : (ss : List Statement) → All CanBeWritten ss → IsInLines (deck_bytes (map to_write ss))
deck_in_lines [] can = record { all = []; is = refl; blank = tt }
deck_in_lines (s ∷ ss) can =
    both_in_lines (statement_lines (to_write s)) (deck_bytes (map to_write ss))
    (statement_in_lines s (All-head CanBeWritten s ss can))
    (deck_in_lines ss (All-tail CanBeWritten s ss can))

-- ---- with * in column 1

-- a line that is a comment
pub record IsStarLine (line : List ℕ) : Type 0 where
  pub tail : List ℕ
  pub is : line ≡ 42 ∷ tail
  pub printable : ArePrintable tail
  pub short : length tail ≤ 71

abbrev pub AreStarLines : List (List ℕ) → Type 0
AreStarLines ls = AllByRecursion IsStarLine ls

not_end : (b : ℕ) → is_printable b ≡ true → (b == 10) ≡ false
not_end b is = by (b == 10) refl
  where
    by : (end : Bool) → (b == 10) ≡ end → end ≡ false
    by false e = refl
    by true e = absurd (false≢true (ap is_printable (sym (eqb-true b 10 e)) ∙ is))

within_line : (before : ℕ) (line rest : List ℕ) → (before == 10) ≡ false → ArePrintable line
    → starred_behind before (line ++ 10 ∷ rest) ≡ line ++ 10 ∷ starred_behind 10 rest
within_line before [] rest other are = ap (λ end. cond end 42 10 ∷ starred_behind 10 rest) other
within_line before (b ∷ line) rest other are =
    let both = and_parts (is_printable b) (list_all is_printable line) are in
    ap (λ end. cond end 42 b ∷ starred_behind b (line ++ 10 ∷ rest)) other
    ∙ ap (λ x. b ∷ x) (within_line b line rest (not_end b both.0) both.1)

-- lines that make a comment
pub record IsInStars (text : List ℕ) : Type 0 where
  pub all : List (List ℕ)
  pub is : text ≡ with_ends all
  pub stars : AreStarLines all

starred_lines : (all : List (List ℕ)) → AreBlankLines all → IsInStars (starred (with_ends all))
starred_lines [] blank = record { all = []; is = refl; stars = tt }
starred_lines (line ∷ all) blank =
    let rest = starred_lines all blank.1 in
    let tail = blank.0.tail in
    record {
      all = (42 ∷ tail) ∷ rest.all;
      is = ap (λ l. starred ((l ++ 10 ∷ []) ++ with_ends all)) blank.0.is
          ∙ ap (λ x. starred (32 ∷ x)) (append_assoc tail (10 ∷ []) (with_ends all))
          ∙ ap (λ x. 42 ∷ x) (within_line 32 tail (with_ends all) refl blank.0.printable)
          ∙ ap (λ x. 42 ∷ (tail ++ 10 ∷ x)) rest.is
          ∙ sym (append_assoc (42 ∷ tail) (10 ∷ []) (with_ends rest.all));
      stars = (record { tail = tail; is = refl; printable = blank.0.printable; short = blank.0.short }, rest.stars);
    }

-- the cards of statements that can be written are such lines, once they are starred
pub comment_in_stars : (ss : List Statement) → All CanBeWritten ss → IsInStars (starred (deck_bytes (map to_write ss)))
comment_in_stars ss can =
    let lines = deck_in_lines ss can in
    subst (λ text. IsInStars (starred text)) (sym lines.is) (starred_lines lines.all lines.blank)

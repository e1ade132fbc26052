-- Texts of statements and comments: which cards their lines are, wherever they are counted from, and
-- the statements of these cards.
use Rattle.std.proofs.Common.{◌≡◌, ◌∙◌, ℕ, ◌≤◌, ◌+◌, not, cond, Bool, true, false, List, [], ◌∷◌, ◌++◌, All, length}
use Rattle.std.proofs.Common.{map, Ok, refl, sym, ap, subst, append_assoc, append-nil, arith}
use Rattle.std.proofs.lemmas.Bool.{le-ltb}
use Rattle.std.proofs.lemmas.List.{map-append}
use Rattle.std.proofs.lemmas.List.Elements.{All-head, All-tail}
use Rattle.std.specs.List.{AllByRecursion}
use Rattle.std.specs.Str.Lines.{lines}
use Rattle.iocm_types.specs.Each.{each}
use Rattle.iocm_types.specs.Fault.{◌>>=◌}
use Rattle.iocm_columns.specs.declared.card.Card.{Card}
use Rattle.iocm_columns.specs.declared.joined.Joined.{Joined}
use Rattle.iocm_columns.specs.Cards.{card_of}
use Rattle.iocm_columns.specs.Columns.{columns_of, is_skipped}
use Rattle.iocm_columns.specs.Slices.{AreStatementsOf}
use Rattle.iocm_columns.specs.StatementCards.{statement_card, statement_cards}
use Rattle.iocm_columns.specs.Statements.{joined_of, statements_of}
use Rattle.iocm_columns.specs.Written.{IsWritable, deck_bytes, statement_lines, without_line}
use Rattle.iocm_columns.proofs.Relating.{deck_only}
use Rattle.iocm_columns.proofs.WrittenCards.{AreLines, cards_from, lines_are_kept, rows_from}
use Rattle.iocm_columns.proofs.WrittenLines.{ArePrintable, both_printable, line_first}
use Rattle.iocm_columns.proofs.WrittenStatements.{cards_of_statement, row}
use Rattle.iocm_difference_writer.proofs.CommentLines.{AreStarLines, with_ends}

-- a line that isn't refused
record IsCard (line : List ℕ) : Type 0 where
  pub printable : ArePrintable line
  pub short : length line ≤ 72

abbrev AreCards : List (List ℕ) → Type 0
AreCards ls = AllByRecursion IsCard ls

-- a text, and the statements that are read of it
pub record IsTold (text : List ℕ) (deck : List Joined) : Type 0 where
  all : List (List ℕ)
  written : (rest : List ℕ) → lines (text ++ rest) ≡ all ++ lines rest
  are : AreCards all
  read : ℕ → List Joined
  statements : (n : ℕ) → AreStatementsOf (statement_cards (cards_from n all)) (read n)
  same : (n : ℕ) → map without_line (read n) ≡ map without_line deck

-- ---- one behind the other

cards_both : (xs ys : List (List ℕ)) → AreCards xs → AreCards ys → AreCards (xs ++ ys)
cards_both [] ys one other = other
cards_both (x ∷ xs) ys one other = (one.0, cards_both xs ys one.1 other)

cards_together : (n : ℕ) (one other : List (List ℕ))
    → cards_from n (one ++ other) ≡ cards_from n one ++ cards_from (n + length one) other
cards_together n [] other = ap (λ m. cards_from m other) (let same : n ≡ n + 0 = omega arith in same)
cards_together n (line ∷ one) other =
    let same : (n + 1) + length one ≡ n + length (line ∷ one) = omega arith in
    ap (λ l. record { line = n; bytes = line } ∷ l)
    (cards_together (n + 1) one other ∙ ap (λ m. cards_from (n + 1) one ++ cards_from m other) same)

kept_both : (xs ys : List Card) → statement_cards (xs ++ ys) ≡ statement_cards xs ++ statement_cards ys
kept_both [] ys = refl
kept_both (x ∷ xs) ys = by (is_skipped (columns_of x.bytes)) (kept_both xs ys)
  where
    by : (skipped : Bool) → statement_cards (xs ++ ys) ≡ statement_cards xs ++ statement_cards ys
        → cond (not skipped) (statement_card x ∷ statement_cards (xs ++ ys)) (statement_cards (xs ++ ys))
        ≡ cond (not skipped) (statement_card x ∷ statement_cards xs) (statement_cards xs) ++ statement_cards ys
    by true rest = rest
    by false rest = ap (λ x'. statement_card x ∷ x') rest

statements_both : (rs ss : List _) (js ks : List Joined) → AreStatementsOf rs js → AreStatementsOf ss ks
    → AreStatementsOf (rs ++ ss) (js ++ ks)
statements_both rs ss [] ks first second = subst (λ x. AreStatementsOf (x ++ ss) ks) (sym first) second
statements_both rs ss (j ∷ js) ks first second = (
  first.0,
  first.1,
  first.2 ++ ss,
  ap (λ x. x ++ ss) first.3 ∙ ap (λ x. first.0 ∷ x) (append_assoc first.1 first.2 ss),
  first.4,
  first.5,
  statements_both first.2 ss js ks first.6 second,
)

pub none_told : IsTold [] []
none_told = record {
  all = [];
  written = λ rest. refl;
  are = tt;
  read = λ n. [];
  statements = λ n. refl;
  same = λ n. refl;
}

pub both_told : (a b : List ℕ) (xs ys : List Joined) → IsTold a xs → IsTold b ys → IsTold (a ++ b) (xs ++ ys)
both_told a b xs ys first second = record {
  all = first.all ++ second.all;
  written = λ rest.
      ap lines (append_assoc a b rest) ∙ first.written (b ++ rest) ∙ ap (λ x. first.all ++ x) (second.written rest)
      ∙ sym (append_assoc first.all second.all (lines rest));
  are = cards_both first.all second.all first.are second.are;
  read = λ n. first.read n ++ second.read (n + length first.all);
  statements = λ n.
      let later = n + length first.all in
      subst (λ rs. AreStatementsOf rs (first.read n ++ second.read later))
      (sym (ap statement_cards (cards_together n first.all second.all)
      ∙ kept_both (cards_from n first.all) (cards_from later second.all)))
      (statements_both (statement_cards (cards_from n first.all)) (statement_cards (cards_from later second.all))
      (first.read n) (second.read later)
      (first.statements n) (second.statements later));
  same = λ n.
      map-append without_line (first.read n) (second.read (n + length first.all))
      ∙ ap (λ x. x ++ map without_line (second.read (n + length first.all))) (first.same n)
      ∙ ap (λ x. map without_line xs ++ x) (second.same (n + length first.all))
      ∙ sym (map-append without_line xs ys);
}

-- ---- statements

are_cards : (ls : List (List ℕ)) → AreLines ls → AreCards ls
are_cards [] are = tt
are_cards (l ∷ ls) are = (record { printable = are.0.printable; short = are.0.short }, are_cards ls are.1)

statement_told : (joined : Joined) → IsWritable joined → IsTold (statement_lines joined) (joined ∷ [])
statement_told joined writable =
    let c = cards_of_statement joined writable in
    record {
      all = c.first ∷ c.more;
      written = c.written;
      are = are_cards (c.first ∷ c.more) c.are_lines;
      read = λ n. record { line = n; name = joined.name; operation = joined.operation; text = joined.text } ∷ [];
      statements = λ n. (
        row n c.first,
        rows_from (n + 1) c.more,
        [],
        lines_are_kept n (c.first ∷ c.more) c.are_lines
            ∙ ap (λ x. row n c.first ∷ x) (sym (append-nil (rows_from (n + 1) c.more))),
        c.continued n,
        record {
          line = refl;
          name = sym c.name;
          operation = sym c.operation;
          slices = c.slices;
          in_columns = c.in_columns n;
          text = c.text;
        },
        refl,
      );
      same = λ n. refl;
    }

pub deck_told : (deck : List Joined) → All IsWritable deck → IsTold (deck_bytes deck) deck
deck_told [] writable = none_told
deck_told (joined ∷ more) writable =
    both_told (statement_lines joined) (deck_bytes more) (joined ∷ []) more
    (statement_told joined (All-head IsWritable joined more writable))
    (deck_told more (All-tail IsWritable joined more writable))

-- ---- comments

star_skipped : (tail : List ℕ) → is_skipped (columns_of (42 ∷ tail)) ≡ true
star_skipped tail = refl

star_told : (tail : List ℕ) → ArePrintable tail → length tail ≤ 71 → IsTold ((42 ∷ tail) ++ 10 ∷ []) []
star_told tail printable short =
    let whole : ArePrintable (42 ∷ tail) = both_printable (42 ∷ []) tail refl printable in
    record {
      all = (42 ∷ tail) ∷ [];
      written = λ rest. ap lines (append_assoc (42 ∷ tail) (10 ∷ []) rest) ∙ line_first (42 ∷ tail) rest whole;
      are = (record { printable = whole; short = omega (arith, short) }, tt);
      read = λ n. [];
      statements = λ n. ap (λ e. cond (not e) (row n (42 ∷ tail) ∷ []) []) (star_skipped tail);
      same = λ n. refl;
    }

pub stars_told : (all : List (List ℕ)) → AreStarLines all → IsTold (with_ends all) []
stars_told [] are = none_told
stars_told (line ∷ all) are =
    both_told (line ++ 10 ∷ []) (with_ends all) [] []
    (subst (λ l. IsTold (l ++ 10 ∷ []) []) (sym are.0.is) (star_told are.0.tail are.0.printable are.0.short))
    (stars_told all are.1)

-- ---- how they are read

cards_are_read : (n : ℕ) (ls : List (List ℕ)) → AreCards ls → each card_of n ls ≡ Ok (cards_from n ls)
unfolding each
cards_are_read n [] are = refl
cards_are_read n (line ∷ more) are =
    let short = are.0.short in
    let first : card_of n line ≡ Ok (record { line = n; bytes = line }) =
    rw (are.0.printable, le-ltb 80 (length line) (omega (arith, short))) refl in
    rw (first, cards_are_read (n + 1) more are.1) refl

-- the statements that are read of a text, but for the numbers of their lines
pub record IsReadSo (text : List ℕ) (deck : List Joined) : Type 0 where
  pub read : List Joined
  pub is_read : joined_of text ≡ Ok read
  pub same : map without_line read ≡ map without_line deck

pub told_is_read : (text : List ℕ) (deck : List Joined) → IsTold text deck → IsReadSo text deck
told_is_read text deck told =
    let in_lines : lines text ≡ told.all = ap lines (sym (append-nil text)) ∙ told.written [] ∙ append-nil told.all in
    record {
      read = told.read 1;
      is_read =
          ap (λ l. each card_of 1 l >>= statements_of) in_lines
          ∙ ap (λ r. r >>= statements_of) (cards_are_read 1 told.all told.are)
          ∙ deck_only (cards_from 1 told.all) (told.read 1) (told.statements 1);
      same = told.same 1;
    }

-- The cards in which a statement is written are those of this statement.
use Rattle.std.specs.Prelude.{⊤}
use Rattle.std.proofs.Common.{◌≡◌, ◌∙◌, ◌+◌, ◌-◌, ◌<◌, ◌≤◌, ◌++◌, ℕ, suc, true, false, List, [], ◌∷◌, length, drop}
use Rattle.std.proofs.Common.{refl, ap, sym, subst, arith, append_assoc, append-nil, eqb, take-append-drop}
use Rattle.std.specs.List.{concat}
use Rattle.std.specs.Str.Lines.{lines}
use Rattle.std.proofs.lemmas.Bool.{eq-eqb}
use Rattle.std.proofs.lemmas.List.{length-append}
use Rattle.iocm_columns.specs.declared.joined.Joined.{Joined}
use Rattle.iocm_columns.specs.declared.statement_card.StatementCard.{StatementCard}
use Rattle.iocm_columns.specs.Columns.{behind_operation, columns_of, is_blank, is_skipped, name_of, operation_of}
use Rattle.iocm_columns.specs.Columns.{statement_area}
use Rattle.iocm_columns.specs.Part.{going_of, is_quoting}
use Rattle.iocm_columns.specs.Slices.{AreSlices, AreSlicesOf, IsContinuedBy, IsFront, going_behind}
use Rattle.iocm_columns.specs.Written.{IsWritable, cut_from, name_columns, part_columns, statement_columns}
use Rattle.iocm_columns.specs.Written.{statement_lines}
use Rattle.iocm_columns.proofs.Cut.{cut_none}
use Rattle.iocm_columns.proofs.Pieces.{Fits, cut_behind, layout, pieces_of}
use Rattle.iocm_columns.proofs.WrittenCards.{AreLines, IsLine, rows_from}
use Rattle.iocm_columns.proofs.WrittenColumns.{blanks, blanks_alone, columns_to_71, no_blank_before}
use Rattle.iocm_columns.proofs.WrittenContinuations.{continuations_are_lines, continued_written, last_columns, last_len}
use Rattle.iocm_columns.proofs.WrittenContinuations.{whole_columns, whole_len}
use Rattle.iocm_columns.proofs.WrittenLines.{ArePrintable, both_printable, line_of, lines_with, lines_written, margin}
use Rattle.iocm_columns.proofs.WrittenLines.{more_lines, printable_parts}
use Rattle.iocm_columns.proofs.WrittenTexts.{AreInside, begins_nonblank, front_last, front_whole, slices_written}
use Rattle.iocm_columns.proofs.WrittenWords.{name_found, operation_found, part_found, words, words_are_kept}
use Rattle.iocm_columns.proofs.WrittenWords.{words_are_printable, words_len}

-- a line as a statement card
abbrev pub row : ℕ → List ℕ → StatementCard
row n line = record { line = n; columns = columns_of line }

-- the lines in which a statement is written, and that their cards are those of this statement
pub record IsCards (joined : Joined) : Type 0 where
  pub first : List ℕ
  pub more : List (List ℕ)
  pub written : (rest : List ℕ) → lines (statement_lines joined ++ rest) ≡ first ∷ (more ++ lines rest)
  pub are_lines : AreLines (first ∷ more)
  pub continued : (n : ℕ) → IsContinuedBy (row n first) (rows_from (n + 1) more)
  pub name : name_of (columns_of first) ≡ joined.name
  pub operation : operation_of (columns_of first) ≡ joined.operation
  pub slices : List (List ℕ)
  pub in_columns : (n : ℕ) → AreSlicesOf (row n first) (rows_from (n + 1) more) slices
  pub text : joined.text ≡ concat slices

-- ---- from the layout of a statement: a front with its words, and the pieces of its text

record IsLayout (joined : Joined) (front s : List ℕ) (cs : List (List ℕ)) (behind : List ℕ) : Type 0 where
  fits : Fits (length front + 1) s cs
  put : cut_from 1 (statement_columns joined) ≡ front ++ layout s cs
  whole : joined.text ≡ s ++ concat cs
  printable : ArePrintable front
  area : statement_area (columns_of (line_of front s cs)) ≡ words joined ++ 32 ∷ behind

put_lines : (joined : Joined) (front s : List ℕ) (cs : List (List ℕ))
    → cut_from 1 (statement_columns joined) ≡ front ++ layout s cs
    → ArePrintable front → ArePrintable (s ++ concat cs) → (rest : List ℕ)
    → lines (statement_lines joined ++ rest) ≡ lines_with front s cs ++ lines rest
put_lines joined front s cs put before are rest =
    ap lines (ap (λ l. (l ++ 10 ∷ []) ++ rest) put ∙ append_assoc (front ++ layout s cs) (10 ∷ []) rest
    ∙ append_assoc front (layout s cs) (10 ∷ rest))
    ∙ lines_written front s cs rest before are

area_is_kept : (joined : Joined) → IsWritable joined → (columns behind : List ℕ)
    → statement_area columns ≡ words joined ++ 32 ∷ behind → is_skipped columns ≡ false
area_is_kept joined w columns behind area =
    words_are_kept joined w columns ((32 ∷ behind) ++ drop 71 columns)
    (sym (take-append-drop 71 columns) ∙ ap (λ l. l ++ drop 71 columns) area
    ∙ append_assoc (words joined) (32 ∷ behind) (drop 71 columns))

first_is_line : (front s : List ℕ) (cs : List (List ℕ)) → Fits (length front + 1) s cs → ArePrintable front
    → ArePrintable (s ++ concat cs)
    → is_skipped (columns_of (line_of front s cs)) ≡ false → IsLine (line_of front s cs)
first_is_line front s [] fits before are kept = record {
  printable = both_printable front s before (printable_parts s [] are).0;
  short = omega (arith, fits, length-append front s);
  kept = kept;
}
first_is_line front s (d ∷ ds) fits before are kept = record {
  printable = both_printable front (s ++ 88 ∷ []) before
      (both_printable s (88 ∷ []) (printable_parts s (d ++ concat ds) are).0 refl);
  short = omega (arith, fits.0, length-append front (s ++ 88 ∷ []), length-append s (88 ∷ []));
  kept = kept;
}

cards_found : (joined : Joined) → IsWritable joined → (front s : List ℕ) (cs : List (List ℕ)) (behind : List ℕ)
    → IsLayout joined front s cs behind
    → AreLines (more_lines cs)
    → ((n : ℕ) → AreSlicesOf (row n (line_of front s cs)) (rows_from (n + 1) (more_lines cs)) (s ∷ cs)) → IsCards joined
cards_found joined w front s cs behind l others slices =
    let line = line_of front s cs in
    let are : ArePrintable (s ++ concat cs) = subst ArePrintable l.whole w.text in
    record {
      first = line;
      more = more_lines cs;
      written = put_lines joined front s cs l.put l.printable are;
      are_lines = (
        first_is_line front s cs l.fits l.printable are
            (area_is_kept joined w (columns_of line) behind l.area),
        others,
      );
      continued = λ n. continued_written front s cs n l.fits;
      name = name_found joined w (columns_of line) behind l.area;
      operation = operation_found joined w (columns_of line) behind l.area;
      slices = s ∷ cs;
      in_columns = slices;
      text = l.whole;
    }

-- ---- a statement without an operand part

cards_without_part : (joined : Joined) → IsWritable joined → joined.text ≡ [] → IsCards joined
cards_without_part joined w empty =
    let front = words joined in
    let left = 70 - length front in
    let fits : Fits (length front + 1) [] [] = omega (arith, words_len joined w) in
    let n = 71 - length (front ++ []) in
    let some : n ≡ suc left = omega (arith, words_len joined w, length-append front []) in
    let area : statement_area (columns_of (front ++ [])) ≡ front ++ 32 ∷ blanks left =
    ap statement_area (last_columns front [] fits)
    ∙ columns_to_71 ((front ++ []) ++ blanks n) 32 (last_len front [] fits)
    ∙ ap (λ l. l ++ blanks n) (append-nil front) ∙ ap (λ m. front ++ blanks m) some in
    let put : cut_from 1 (statement_columns joined) ≡ front ++ [] =
    ap (λ t. cut_from 1 (name_columns joined.name ++ (joined.operation ++ part_columns t))) empty
    ∙ ap (cut_from 1) (sym (append_assoc (name_columns joined.name) joined.operation []))
    ∙ cut_behind front [] 1 (omega (arith, fits)) ∙ ap (λ l. front ++ l) (cut_none (length front + 1)) in
    let part : behind_operation (columns_of (front ++ [])) ≡ [] =
    part_found joined w (columns_of (front ++ [])) (blanks left) area ∙ blanks_alone left in
    let inside : AreInside [] = λ before after same. w.blanks before after (empty ∙ same) in
    cards_found joined w front [] [] (blanks left)
    (record { fits = fits; put = put; whole = empty; printable = words_are_printable joined w; area = area })
    tt
    (λ n. subst (λ x. IsFront [] x [] × ⊤) (sym part) (front_whole [] [] [] inside, tt))

-- ---- a statement with an operand part

abbrev front_of : Joined → List ℕ
front_of joined = words joined ++ 32 ∷ []

front_len : (joined : Joined) → IsWritable joined → length (front_of joined) ≤ 18
front_len joined w = omega (arith, words_len joined w, length-append (words joined) (32 ∷ []))

cards_with : (joined : Joined) → IsWritable joined → (b : ℕ) (bs : List ℕ) (cs : List (List ℕ))
    → Fits (length (front_of joined) + 1) (b ∷ bs) cs
    → cut_from 1 (statement_columns joined) ≡ front_of joined ++ layout (b ∷ bs) cs
    → joined.text ≡ (b ∷ bs) ++ concat cs → IsCards joined
cards_with joined w b bs [] fits put whole =
    let front = front_of joined in
    let s : List ℕ = b ∷ bs in
    let n = 71 - length (front ++ s) in
    let area : statement_area (columns_of (front ++ s)) ≡ words joined ++ 32 ∷ (s ++ blanks n) =
    ap statement_area (last_columns front s fits) ∙ columns_to_71 ((front ++ s) ++ blanks n) 32 (last_len front s fits)
    ∙ append_assoc front s (blanks n) ∙ append_assoc (words joined) (32 ∷ []) (s ++ blanks n) in
    let all : joined.text ≡ s = whole ∙ append-nil s in
    let inside : AreInside s = subst AreInside all w.blanks in
    let part : behind_operation (columns_of (front ++ s)) ≡ s ++ blanks n =
    part_found joined w (columns_of (front ++ s)) (s ++ blanks n) area
    ∙ no_blank_before b (bs ++ blanks n) (begins_nonblank [] b bs inside refl (is_blank b) refl) in
    cards_found joined w front s [] (s ++ blanks n)
    (record {
      fits = fits;
      put = put;
      whole = whole;
      printable = both_printable (words joined) (32 ∷ []) (words_are_printable joined w) refl;
      area = area;
    })
    tt
    (λ m. subst (λ x. IsFront [] x s × ⊤) (sym part)
    (front_last [] s n inside (ap is_quoting (sym all) ∙ w.closed), tt))
cards_with joined w b bs (d ∷ ds) fits put whole =
    let front = front_of joined in
    let s : List ℕ = b ∷ bs in
    let later = d ++ concat ds in
    let columns = columns_of (front ++ (s ++ 88 ∷ [])) in
    let area : statement_area columns ≡ words joined ++ 32 ∷ s =
    ap statement_area (whole_columns front s fits.0) ∙ columns_to_71 (front ++ s) 88 (whole_len front s fits.0)
    ∙ append_assoc (words joined) (32 ∷ []) s in
    let inside : AreInside (s ++ later) = subst AreInside whole w.blanks in
    let closed : is_quoting (s ++ later) ≡ false = ap is_quoting (sym whole) ∙ w.closed in
    let part : behind_operation columns ≡ s =
    part_found joined w columns s area
    ∙ no_blank_before b bs (begins_nonblank [] b (bs ++ later) inside refl (is_blank b) refl) in
    let are : ArePrintable (s ++ later) = subst ArePrintable whole w.text in
    let through : true ≡ eqb (length s) (length s) = sym (eq-eqb (length s) (length s) refl) in
    cards_found joined w front s (d ∷ ds) s
    (record {
      fits = fits;
      put = put;
      whole = whole;
      printable = both_printable (words joined) (32 ∷ []) (words_are_printable joined w) refl;
      area = area;
    })
    (continuations_are_lines s d ds fits.1 fits.2 (printable_parts s later are).1 inside closed)
    (λ n.
    let rs = rows_from (n + 1) (lines_with margin d ds) in
    subst (λ x. IsFront [] x s × AreSlices s (going_behind [] x s) rs (d ∷ ds)) (sym part) (
      front_whole [] s later inside,
      subst (λ e. AreSlices s (going_of s e) rs (d ∷ ds)) through
          (slices_written s d ds (n + 1) fits.1 fits.2 inside closed),
    ))

first_some : (column : ℕ) (s : List ℕ) (cs : List (List ℕ)) (text : List ℕ) → Fits column s cs → column < 72
    → text ≡ s ++ concat cs → 0 < length text → 0 < length s
first_some column s [] text fits within whole some = omega (arith, some, ap length whole, length-append s [])
first_some column s (d ∷ ds) text fits within whole some = omega (arith, fits.0, within)

cards_with_first : (joined : Joined) → IsWritable joined → (s : List ℕ) (cs : List (List ℕ)) → 0 < length s
    → Fits (length (front_of joined) + 1) s cs
    → cut_from 1 (statement_columns joined) ≡ front_of joined ++ layout s cs → joined.text ≡ s ++ concat cs
    → IsCards joined
cards_with_first joined w [] cs some fits put whole = absurd (omega (arith, some))
cards_with_first joined w (b ∷ bs) cs some fits put whole = cards_with joined w b bs cs fits put whole

cards_of_text : (joined : Joined) → IsWritable joined → (text : List ℕ) → joined.text ≡ text → IsCards joined
cards_of_text joined w [] is = cards_without_part joined w is
cards_of_text joined w (b ∷ bs) is =
    let front = front_of joined in
    let text : List ℕ = b ∷ bs in
    let within : length front + 1 < 72 = omega (arith, front_len joined w) in
    let p = pieces_of text (length front + 1) (omega (arith, within)) in
    let put : cut_from 1 (statement_columns joined) ≡ front ++ layout p.first p.more =
    ap (λ t. cut_from 1 (name_columns joined.name ++ (joined.operation ++ part_columns t))) is
    ∙ ap (cut_from 1) (sym (append_assoc (name_columns joined.name) joined.operation (32 ∷ text))
    ∙ sym (append_assoc (words joined) (32 ∷ []) text))
    ∙ cut_behind front text 1 (omega (arith, within)) ∙ ap (λ l. front ++ l) p.written in
    cards_with_first joined w p.first p.more
    (first_some (length front + 1) p.first p.more text p.fits within p.whole (omega arith)) p.fits put
    (is ∙ p.whole)

-- any statement that can be written
pub cards_of_statement : (joined : Joined) → IsWritable joined → IsCards joined
cards_of_statement joined w = cards_of_text joined w joined.text refl

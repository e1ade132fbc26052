-- The lines of a statement that is written continue each other, and are cards of a statement.
use Rattle.std.proofs.Common.{◌≡◌, ◌∙◌, ◌+◌, ◌-◌, ◌<◌, ◌≤◌, ◌++◌, ℕ, Bool, true, false, not, List, [], ◌∷◌, length}
use Rattle.std.proofs.Common.{refl, ap, sym, subst, arith, append_assoc, append-nil, fold}
use Rattle.std.specs.List.{concat, list_all}
use Rattle.std.proofs.lemmas.Bool.{and_parts, both_ways, eqb-true}
use Rattle.std.proofs.lemmas.List.{length-append}
use Rattle.std.proofs.lemmas.List.Sums.{fold-append}
use Rattle.iocm_columns.specs.Columns.{columns_of, has_margin, is_blank, is_continued, is_skipped}
use Rattle.iocm_columns.specs.Part.{is_quoting, switched}
use Rattle.iocm_columns.specs.Slices.{IsContinuedBy}
use Rattle.iocm_columns.proofs.Pieces.{Fits}
use Rattle.iocm_columns.proofs.WrittenCards.{AreLines, IsLine, rows_from}
use Rattle.iocm_columns.proofs.WrittenColumns.{blanks, blanks_len, column_72, columns_of_short, columns_of_whole}
use Rattle.iocm_columns.proofs.WrittenColumns.{not_blank_behind, not_blank_with}
use Rattle.iocm_columns.proofs.WrittenLines.{ArePrintable, both_printable, line_of, lines_with, margin, more_lines}
use Rattle.iocm_columns.proofs.WrittenLines.{printable_parts}
use Rattle.iocm_columns.proofs.WrittenTexts.{AreInside, regrouped}

-- ---- the columns of a line that is not continued, and of one that is

short_len : (front s : List ℕ) → length s + (length front + 1) ≤ 72
    → length (front ++ s) + (71 - length (front ++ s)) ≡ 71
short_len front s fits = omega (arith, fits, length-append front s)

-- columns 1 to 71 of a last line, and what stands behind it
pub last_columns : (front s : List ℕ) → length s + (length front + 1) ≤ 72
    → columns_of (front ++ s) ≡ ((front ++ s) ++ blanks (71 - length (front ++ s))) ++ 32 ∷ []
last_columns front s fits = columns_of_short (front ++ s) (71 - length (front ++ s)) (short_len front s fits)

pub last_len : (front s : List ℕ) → length s + (length front + 1) ≤ 72
    → length ((front ++ s) ++ blanks (71 - length (front ++ s))) ≡ 71
last_len front s fits =
    let n = 71 - length (front ++ s) in
    length-append (front ++ s) (blanks n) ∙ ap (λ m. length (front ++ s) + m) (blanks_len n) ∙ short_len front s fits

pub whole_len : (front s : List ℕ) → length s + (length front + 1) ≡ 72 → length (front ++ s) ≡ 71
whole_len front s fits = omega (arith, fits, length-append front s)

pub whole_columns : (front s : List ℕ) → length s + (length front + 1) ≡ 72
    → columns_of (front ++ (s ++ 88 ∷ [])) ≡ (front ++ s) ++ 88 ∷ []
whole_columns front s fits =
    ap columns_of (sym (append_assoc front s (88 ∷ []))) ∙ columns_of_whole (front ++ s) (whole_len front s fits)

-- ---- the lines continue each other

continued_last : (area columns : List ℕ) (b : ℕ) → columns ≡ area ++ b ∷ [] → length area ≡ 71
    → is_continued columns ≡ not (is_blank b)
continued_last area columns b are len = ap is_continued are ∙ ap (λ x. not (is_blank x)) (column_72 area b len)

in_margin : (c : List ℕ) (cs : List (List ℕ)) → has_margin (columns_of (line_of margin c cs)) ≡ true
in_margin c [] = refl
in_margin c (d ∷ ds) = refl

pub continued_written : (front s : List ℕ) (cs : List (List ℕ)) (n : ℕ) → Fits (length front + 1) s cs
    → IsContinuedBy (record { line = n; columns = columns_of (line_of front s cs) }) (rows_from (n + 1) (more_lines cs))
continued_written front s [] n fits =
    continued_last ((front ++ s) ++ blanks (71 - length (front ++ s))) (columns_of (front ++ s)) 32
    (last_columns front s fits) (last_len front s fits)
continued_written front s (c ∷ cs) n fits = (
  continued_last (front ++ s) (columns_of (front ++ (s ++ 88 ∷ []))) 88 (whole_columns front s fits.0)
      (whole_len front s fits.0),
  in_margin c cs,
  continued_written margin c cs (n + 1) fits.2,
)

-- ---- no line is refused or skipped

keeps_quoting : (q : Bool) (s : List ℕ) → list_all is_blank s ≡ true → fold switched q s ≡ q
unfolding switched
keeps_quoting q [] are = refl
keeps_quoting q (b ∷ bs) are =
    let both = and_parts (is_blank b) (list_all is_blank bs) are in
    ap (λ x. fold switched (switched q x) bs) (eqb-true b 32 both.0) ∙ keeps_quoting q bs both.1

last_not_blank_at : (t : List ℕ) (b : ℕ) (bs : List ℕ) → AreInside (t ++ b ∷ bs) → is_quoting (t ++ b ∷ bs) ≡ false
    → (e : Bool) → list_all is_blank (b ∷ bs) ≡ e → e ≡ false
last_not_blank_at t b bs inside closed false are = refl
last_not_blank_at t b bs inside closed true are =
    let blank = and_parts (is_blank b) (list_all is_blank bs) are in
    let quoting = inside t bs (ap (λ x. t ++ x ∷ bs) (eqb-true b 32 blank.0)) in
    let outside = sym (keeps_quoting (is_quoting t) (b ∷ bs) are) ∙ sym (fold-append switched false t (b ∷ bs))
    ∙ closed in
    absurd (both_ways (is_quoting t) outside quoting)

-- the last piece of a text has a nonblank
last_not_blank : (t c : List ℕ) → 0 < length c → AreInside (t ++ c) → is_quoting (t ++ c) ≡ false
    → list_all is_blank c ≡ false
last_not_blank t [] some inside closed = absurd (omega (arith, some))
last_not_blank t (b ∷ bs) some inside closed = last_not_blank_at t b bs inside closed (list_all is_blank (b ∷ bs)) refl

last_line : (t c : List ℕ) → 0 < length c → length c + 16 ≤ 72 → ArePrintable c → AreInside (t ++ c)
    → is_quoting (t ++ c) ≡ false → IsLine (margin ++ c)
last_line t c some fits are inside closed =
    let pad = blanks (71 - length (margin ++ c)) in
    record {
      printable = are;
      short = omega (arith, fits);
      kept = ap is_skipped (last_columns margin c fits)
          ∙ not_blank_with (c ++ pad) (32 ∷ []) (not_blank_with c pad (last_not_blank t c some inside closed));
    }

whole_line : (c : List ℕ) → length c + 16 ≡ 72 → ArePrintable c → IsLine (margin ++ (c ++ 88 ∷ []))
whole_line c fits are = record {
  printable = both_printable c (88 ∷ []) are refl;
  short = omega (arith, fits, length-append c (88 ∷ []));
  kept = ap is_skipped (whole_columns margin c fits) ∙ not_blank_behind c (88 ∷ []) refl;
}

-- the continuations are cards of a statement
pub continuations_are_lines : (t c : List ℕ) (cs : List (List ℕ)) → 0 < length c → Fits 16 c cs
    → ArePrintable (c ++ concat cs)
    → AreInside (t ++ (c ++ concat cs)) → is_quoting (t ++ (c ++ concat cs)) ≡ false → AreLines (lines_with margin c cs)
continuations_are_lines t c [] some fits are inside closed =
    let all : c ++ [] ≡ c = append-nil c in (
      last_line t c some fits (printable_parts c [] are).0 (subst (λ l. AreInside (t ++ l)) all inside)
          (ap (λ l. is_quoting (t ++ l)) (sym all) ∙ closed),
      tt,
    )
continuations_are_lines t c (d ∷ ds) some fits are inside closed =
    let later = d ++ concat ds in
    let parts = printable_parts c later are in (
      whole_line c fits.0 parts.0,
      continuations_are_lines (t ++ c) d ds fits.1 fits.2 parts.1 (subst AreInside (regrouped t c later) inside)
          (ap is_quoting (sym (regrouped t c later)) ∙ closed),
    )

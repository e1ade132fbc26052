-- The lines of what is written: one for each piece, and each is a card.
use Rattle.std.proofs.Common.{◌≡◌, ◌∙◌, ◌-◌, ◌<◌, ◌++◌, ℕ, Bool, true, false, List, [], ◌∷◌, zero, suc, length, get_or}
use Rattle.std.proofs.Common.{replicate, refl, ap, sym, arith, append_assoc, eqb, nat_le}
use Rattle.std.specs.List.{concat, list_all, slice_split}
use Rattle.std.specs.Str.Lines.{lines, lines_of_parts, strip_carriage_return}
use Rattle.std.proofs.lemmas.Bool.{and_parts, ne_eqb}
use Rattle.std.proofs.lemmas.List.Folds.{list_all-append}
use Rattle.std.proofs.lemmas.List.Splits.{slice_split_at, length-slice_split}
use borrow.Author.Tests.{leb-true}
use Rattle.iocm_columns.specs.Cards.{is_printable}
use Rattle.iocm_columns.specs.Written.{cut}
use Rattle.iocm_columns.proofs.Cutting.{first_part}
use Rattle.iocm_columns.proofs.Pieces.{layout}

-- columns 1 to 15 of a continuation
abbrev pub margin : List ℕ
margin = replicate 15 32

-- the line of a piece behind a front: continued where other pieces follow
abbrev pub line_of : List ℕ → List ℕ → List (List ℕ) → List ℕ
line_of front s [] = front ++ s
line_of front s (c ∷ cs) = front ++ (s ++ 88 ∷ [])

-- the lines of the other pieces, behind the margin
abbrev pub more_lines : List (List ℕ) → List (List ℕ)
more_lines [] = []
more_lines (c ∷ cs) = line_of margin c cs ∷ more_lines cs

-- the lines of some pieces, the first one behind a front
abbrev pub lines_with : List ℕ → List ℕ → List (List ℕ) → List (List ℕ)
lines_with front s cs = line_of front s cs ∷ more_lines cs

abbrev pub ArePrintable : List ℕ → Type 0
ArePrintable bytes = list_all is_printable bytes ≡ true

pub both_printable : (xs ys : List ℕ) → ArePrintable xs → ArePrintable ys → ArePrintable (xs ++ ys)
both_printable xs ys one other = rw (list_all-append is_printable xs ys, one, other) refl

pub printable_parts : (xs ys : List ℕ) → ArePrintable (xs ++ ys) → ArePrintable xs × ArePrintable ys
printable_parts xs ys both =
    and_parts (list_all is_printable xs) (list_all is_printable ys) (sym (list_all-append is_printable xs ys) ∙ both)

no_control : (b c : ℕ) → is_printable b ≡ true → c < 32 → eqb b c ≡ false
no_control b c is low =
    let least = leb-true 32 b (and_parts (nat_le 32 b) (nat_le b 126) is).0 in
    ne_eqb b c (λ same. omega (arith, same, least, low))

no_control_in : (line : List ℕ) (c k d : ℕ) → ArePrintable line → c < 32 → k < length line
    → eqb (get_or line k d) c ≡ false
no_control_in [] c k d are low within = absurd (omega (arith, within))
no_control_in (b ∷ bs) c zero d are low within =
    no_control b c (and_parts (is_printable b) (list_all is_printable bs) are).0 low
no_control_in (b ∷ bs) c (suc k) d are low within =
    no_control_in bs c k d (and_parts (is_printable b) (list_all is_printable bs) are).1 low (omega (arith, within))

no_return : (line : List ℕ) → ArePrintable line → strip_carriage_return line ≡ line
no_return [] are = refl
no_return (b ∷ bs) are = rw (no_control_in (b ∷ bs) 13 (length (b ∷ bs) - 1) 0 are (omega arith) (omega arith)) refl

-- the first line of a text
pub line_first : (line rest : List ℕ) → ArePrintable line → lines (line ++ 10 ∷ rest) ≡ line ∷ lines rest
line_first line rest are =
    let p : ℕ → Bool = λ b. eqb b 10 in
    let parts = slice_split p rest in
    let some : 0 < length parts = omega (arith, length-slice_split p rest) in
    ap lines_of_parts (slice_split_at p line 10 rest (λ k d within. no_control_in line 10 k d are (omega arith) within)
    refl)
    ∙ first_part line parts some ∙ ap (λ l. l ∷ lines rest) (no_return line are)

-- the lines of some pieces and what follows them
pub lines_written : (front s : List ℕ) (cs : List (List ℕ)) (rest : List ℕ) → ArePrintable front
    → ArePrintable (s ++ concat cs)
    → lines (front ++ (layout s cs ++ 10 ∷ rest)) ≡ lines_with front s cs ++ lines rest
lines_written front s [] rest before are =
    let whole : ArePrintable (front ++ s) = both_printable front s before (printable_parts s [] are).0 in
    ap lines (sym (append_assoc front s (10 ∷ rest))) ∙ line_first (front ++ s) rest whole
lines_written front s (c ∷ cs) rest before are =
    let parts = printable_parts s (c ++ concat cs) are in
    let line = front ++ (s ++ 88 ∷ []) in
    let behind = margin ++ (layout c cs ++ 10 ∷ rest) in
    let whole : ArePrintable line =
    both_printable front (s ++ 88 ∷ []) before (both_printable s (88 ∷ []) parts.0 refl) in
    ap lines (ap (λ l. front ++ l)
    (append_assoc s (cut ++ layout c cs) (10 ∷ rest) ∙ sym (append_assoc s (88 ∷ []) (10 ∷ behind)))
    ∙ sym (append_assoc front (s ++ 88 ∷ []) (10 ∷ behind)))
    ∙ line_first line behind whole ∙ ap (λ l. line ∷ l) (lines_written margin c cs rest refl parts.1)

-- A text is its first line and the lines of what follows.
use Rattle.std.proofs.Common.{◌≡◌, ℕ, ◌+◌, ◌<◌, Bool, false, List, [], ◌∷◌, length, take, drop, refl, ap, ◌∙◌, arith}
use Rattle.std.proofs.Common.{eqb, nat_lt, Some}
use Rattle.std.specs.List.{All, slice_split, position, position_or_len}
use Rattle.std.specs.Str.Lines.{lines, lines_of_parts, strip_carriage_return}
use Rattle.std.proofs.lemmas.List.{drop-drop}
use Rattle.std.proofs.lemmas.Bool.Decides.{nat_tests}
use Rattle.iocm_columns.proofs.Finding.{found_there}
use Rattle.std.proofs.lemmas.List.Splits.{slice_split_none, slice_split_first, length-slice_split}

one_part : (line : List ℕ) → 0 < length line → lines_of_parts (line ∷ []) ≡ line ∷ []
one_part line some = grind (arith, nat_tests)

-- a text without LF is one line
pub lines_of_one : (text : List ℕ) → 0 < length text → All (λ b. eqb b 10 ≡ false) text → lines text ≡ text ∷ []
lines_of_one text some none = ap lines_of_parts (slice_split_none (λ b. eqb b 10) text none) ∙ one_part text some

pub first_part : (line : List ℕ) (parts : List (List ℕ)) → 0 < length parts
    → lines_of_parts (line ∷ parts) ≡ strip_carriage_return line ∷ lines_of_parts parts
first_part line [] some = absurd (omega arith)
first_part line (part ∷ parts) some = refl

-- the first LF ends the first line
pub lines_of_more : (text : List ℕ) (at : ℕ) → position (λ b. eqb b 10) text ≡ Some at
    → lines text ≡ strip_carriage_return (take at text) ∷ lines (drop 1 (drop at text))
lines_of_more text at found =
    let p : ℕ → Bool = λ b. eqb b 10 in
    let place = position_or_len p text in
    let there = found_there place (length text) at (nat_lt place (length text)) refl found in
    let more = slice_split p (drop (place + 1) text) in
    let some : 0 < length more = omega (arith, length-slice_split p (drop (place + 1) text)) in
    rw (there.0, drop-drop 1 place text)
    (ap lines_of_parts (slice_split_first p text 0 there.1) ∙ first_part (take place text) more some)

pub ruleset first_lines = (lines_of_one, lines_of_more)

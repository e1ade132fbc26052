-- The words of a value's items at every depth, in one pass. A piece in which something follows a
-- list, as in `(A)X`, is no item: none of its words counts.
-- Bytes by their codes: 40 and 41 are parentheses.
use Rattle.std.specs.Prelude.{ℕ, ◌==◌, ◌&&◌, ◌-◌, Bool, if◌then◌else◌, List, [], ◌∷◌, ◌++◌, length, take, unwrap_or}
use Rattle.std.specs.Prelude.{slice_index_or}
use Rattle.iocm_statements.specs.declared.nesting.Nesting.{Nesting}
use Rattle.iocm_statements.specs.Nesting.{start, is_outside, step}
use Rattle.iocm_values.specs.Words.{ends_word, begun_by}

-- how many words there were before the last of these lists
abbrev pub before_last : List ℕ → ℕ
before_last lists = slice_index_or lists (length lists - 1) 0

-- the words so far with a piece that has ended. What follows a list begins with the list's
-- parenthesis: the list's words stay if nothing else follows, or else they go. Another piece is a
-- word
abbrev pub with_piece : List (List ℕ) → List ℕ → List ℕ → List (List ℕ)
with_piece found lists [] = found ++ [] ∷ []
with_piece found lists (b ∷ more) =
    if b == 41 then (if length more == 0 then found else take (before_last lists) found)
    else found ++ (b ∷ more) ∷ []

-- the lists that are left when a piece has ended: one that it followed is done with
abbrev pub lists_left : List ℕ → List ℕ → List ℕ
lists_left lists [] = lists
lists_left lists (b ∷ more) = if b == 41 then take (length lists - 1) lists else lists

-- a parenthesis at the beginning of a piece opens a list
abbrev pub opens_list : Nesting → List ℕ → ℕ → Bool
opens_list p text b = is_outside p && (b == 40) && (length text == 0)

-- with one byte more: the words so far; how many there were before each list that is open or was
-- just closed; the nesting in the piece at hand; the bytes of it
abbrev pub found_next : List (List ℕ) → List ℕ → Nesting → List ℕ → ℕ → List (List ℕ)
found_next found lists p text b = if is_outside p && ends_word b then with_piece found lists text else found

abbrev pub lists_next : List (List ℕ) → List ℕ → Nesting → List ℕ → ℕ → List ℕ
lists_next found lists p text b =
    if is_outside p && ends_word b then lists_left lists text
    else if opens_list p text b then lists ++ length found ∷ []
    else lists

abbrev pub nesting_next : Nesting → List ℕ → ℕ → Nesting
nesting_next p text b =
    if is_outside p && ends_word b then start else if opens_list p text b then p else unwrap_or (step p b) p

abbrev pub text_next : Nesting → List ℕ → ℕ → List ℕ
text_next p text b =
    if is_outside p && ends_word b then begun_by b else if opens_list p text b then [] else text ++ b ∷ []

-- the words of a text that goes on, after what was read of it
unfoldable pub item_words_from : List (List ℕ) → List ℕ → Nesting → List ℕ → List ℕ → List (List ℕ)
item_words_from found lists p text [] = with_piece found lists text
item_words_from found lists p text (b ∷ bs) =
    item_words_from (found_next found lists p text b) (lists_next found lists p text b) (nesting_next p text b)
    (text_next p text b) bs

-- the words of a text's items at every depth
abbrev pub item_words : List ℕ → List (List ℕ)
item_words text = item_words_from [] [] start [] text

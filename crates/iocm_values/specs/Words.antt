-- The words of a value at every depth, in one pass.
-- Bytes by their codes: 40 and 41 are parentheses, 44 is a comma.
use Rattle.std.specs.Prelude.{ℕ, ◌==◌, ◌&&◌, ◌||◌, Bool, if◌then◌else◌, List, [], ◌∷◌, ◌++◌, length, unwrap_or, codes}
use Rattle.std.specs.Str.{bytes_eq}
use Rattle.iocm_statements.specs.declared.nesting.Nesting.{Nesting}
use Rattle.iocm_statements.specs.Nesting.{start, is_outside, step}

-- a word that has ended. What stands behind a list begins with the list's parenthesis, as `)X` in
-- `(A)X`: a parenthesis alone is no word
abbrev pub ended : List ℕ → List (List ℕ) → List (List ℕ)
ended text words = if bytes_eq text (codes ")") then words else text ∷ words

-- outside quotes and parentheses of its own a comma ends a word, and so does a parenthesis that
-- closes a list
abbrev pub ends_word : ℕ → Bool
ends_word b = (b == 44) || (b == 41)

-- what the next word begins with behind such a byte
abbrev pub begun_by : ℕ → List ℕ
begun_by b = if b == 41 then 41 ∷ [] else []

-- the words of a text that goes on inside a word, at this nesting in the word and behind these
-- bytes of it; a parenthesis that opens a list begins the word anew, but where it stands behind a
-- word it belongs to it
unfoldable pub words_from : Nesting → List ℕ → List ℕ → List (List ℕ)
words_from p text [] = ended text []
words_from p text (b ∷ bs) =
    if is_outside p && ends_word b then ended text (words_from start (begun_by b) bs)
    else if is_outside p && (b == 40) && (length text == 0) then words_from p [] bs
    else words_from (unwrap_or (step p b) p) (text ++ b ∷ []) bs

-- the words of a text at every depth
abbrev pub words : List ℕ → List (List ℕ)
words text = words_from start [] text

-- The steps of a loop that looks up a word in a table.
use Rattle.std.proofs.Common.{◌≡◌, ℕ, ◌+◌, ◌<◌, ◌≤◌, true, false, Some, None, List, length, get_or, drop, map, refl}
use Rattle.std.proofs.Math.ListN.{drop_of_length-le}
use Rattle.std.proofs.lemmas.List.{drop_more}
use Rattle.std.specs.Str.{bytes_eq}
use Rattle.iocm_keywords.specs.Known.{Row, form_in}

-- a row of another word leaves the answer to the rest
pub form_goes_on : {X : Type 0} (look : X → Row) (word : List ℕ) (rows : List X) (i : ℕ) (d : X)
    → i < length rows → bytes_eq word (look (get_or rows i d)).0 ≡ false
    → form_in (map look (drop i rows)) word ≡ form_in (map look (drop (i + 1) rows)) word
form_goes_on look word rows i d within other = rw (drop_more rows i d within, other) refl

-- a row of the word has the answer
pub form_found : {X : Type 0} (look : X → Row) (word : List ℕ) (rows : List X) (i : ℕ) (d : X)
    → i < length rows → bytes_eq word (look (get_or rows i d)).0 ≡ true
    → form_in (map look (drop i rows)) word ≡ Some (look (get_or rows i d)).1
form_found look word rows i d within here = rw (drop_more rows i d within, here) refl

-- at the end there is none
pub form_none : {X : Type 0} (look : X → Row) (word : List ℕ) (rows : List X) (i : ℕ) → length rows ≤ i
    → form_in (map look (drop i rows)) word ≡ None
form_none look word rows i past = rw (drop_of_length-le rows past) refl

pub ruleset form_steps = (form_goes_on, form_found, form_none)

-- The steps of a loop that looks for the row of a word.
use Rattle.std.proofs.Common.{◌≡◌, ℕ, ◌+◌, ◌<◌, ◌≤◌, true, false, Some, None, List, length, get_or, drop, map, refl}
use Rattle.std.proofs.Math.ListN.{drop_of_length-le}
use Rattle.std.proofs.lemmas.List.{drop_more}
use Rattle.std.specs.Map.{lookup}
use Rattle.std.specs.Str.{bytes_eq}

-- a row of another word leaves the answer to the rest
pub verb_goes_on : {X V : Type 0} (look : X → List ℕ × V) (word : List ℕ) (rows : List X) (i : ℕ) (d : X)
    → i < length rows → bytes_eq word (look (get_or rows i d)).0 ≡ false
    → lookup (bytes_eq word) (map look (drop i rows)) ≡ lookup (bytes_eq word) (map look (drop (i + 1) rows))
verb_goes_on look word rows i d within other = rw (drop_more rows i d within, other) refl

-- a row of the word has the answer
pub verb_found : {X V : Type 0} (look : X → List ℕ × V) (word : List ℕ) (rows : List X) (i : ℕ) (d : X)
    → i < length rows → bytes_eq word (look (get_or rows i d)).0 ≡ true
    → lookup (bytes_eq word) (map look (drop i rows)) ≡ Some (look (get_or rows i d)).1
verb_found look word rows i d within here = rw (drop_more rows i d within, here) refl

-- at the end there is none
pub verb_none : {X V : Type 0} (look : X → List ℕ × V) (word : List ℕ) (rows : List X) (i : ℕ) → length rows ≤ i
    → lookup (bytes_eq word) (map look (drop i rows)) ≡ None
verb_none look word rows i past = rw (drop_of_length-le rows past) refl

pub ruleset verb_steps = (verb_goes_on, verb_found, verb_none)

-- The rounds of a script, line by line: what was gathered, with what the rest gives, is what all
-- lines give.
use Rattle.std.proofs.Common.{◌≡◌, ℕ, ◌+◌, ◌<◌, ◌≤◌, Bool, true, false, cond, List, [], ◌∷◌, ◌++◌, length, get_or, drop}
use Rattle.std.proofs.Common.{map, refl, sym, ap, append_assoc}
use Rattle.std.specs.List.{slice_split, onto_first, filter_map}
use Rattle.std.proofs.Math.ListN.{drop_of_length-le}
use Rattle.std.proofs.lemmas.List.{append-nil, drop_more}
use Rattle.iocm_script.specs.declared.line.Line as code
use Rattle.iocm_script.specs.declared.line.Spoken.{Spoken}
use Rattle.iocm_script.specs.declared.line.Spoken.TheVariants.{Nothing, Sync, Line}
use Rattle.iocm_script.specs.Lines.{is_sync}
use Rattle.iocm_script.specs.Scripts.{Rounds, line_said, rounds_of}

-- these lines in front of those of the first round
abbrev pub onto_round : List code.Line → Rounds → Rounds
onto_round front [] = front ∷ []
onto_round front (round ∷ rounds) = (front ++ round) ∷ rounds

-- the rounds that were gathered and the lines of the next one, with what the rest gives
abbrev pub gathered : Rounds → List code.Line → List Spoken → Rounds
gathered rounds round rest = rounds ++ onto_round round (rounds_of rest)

nothing_in : (round : List code.Line) (pieces : List (List Spoken))
    → onto_round round (map (filter_map line_said) (onto_first Nothing pieces))
    ≡ onto_round round (map (filter_map line_said) pieces)
nothing_in round [] = ap (λ r. r ∷ []) (append-nil round)
nothing_in round (p ∷ ps) = refl

line_in : (round : List code.Line) (l : code.Line) (pieces : List (List Spoken))
    → onto_round round (map (filter_map line_said) (onto_first (Line l) pieces))
    ≡ onto_round (round ++ l ∷ []) (map (filter_map line_said) pieces)
line_in round l [] = refl
line_in round l (p ∷ ps) =
    ap (λ r. r ∷ map (filter_map line_said) ps) (sym (append_assoc round (l ∷ []) (filter_map line_said p)))

some_round : (e : Bool) (x : Spoken) (pieces : List (List Spoken))
    → onto_round [] (map (filter_map line_said) (cond e ([] ∷ pieces) (onto_first x pieces)))
    ≡ map (filter_map line_said) (cond e ([] ∷ pieces) (onto_first x pieces))
some_round true x pieces = refl
some_round false x [] = refl
some_round false x (p ∷ ps) = refl

-- at the beginning nothing was gathered
pub nothing_in_front : (rest : List Spoken) → onto_round [] (rounds_of rest) ≡ rounds_of rest
nothing_in_front [] = refl
nothing_in_front (x ∷ xs) = some_round (is_sync x) x (slice_split is_sync xs)

sync_in : (rounds : Rounds) (round : List code.Line) (rest : Rounds) → onto_round [] rest ≡ rest
    → rounds ++ ((round ++ []) ∷ rest) ≡ (rounds ++ round ∷ []) ++ onto_round [] rest
sync_in rounds round rest same = rw (append-nil round, same) (sym (append_assoc rounds (round ∷ []) rest))

-- a comment or a blank line is dropped
pub nothing_more : (rounds : Rounds) (round : List code.Line) (xs : List Spoken) (i : ℕ) (d : Spoken) → i < length xs
    → get_or xs i d ≡ Nothing
    → gathered rounds round (drop i xs) ≡ gathered rounds round (drop (i + 1) xs)
nothing_more rounds round xs i d within is =
    rw (drop_more xs i d within, is) (ap (λ r. rounds ++ r) (nothing_in round (slice_split is_sync (drop (i + 1) xs))))

-- a sync ends the round
pub sync_more : (rounds : Rounds) (round : List code.Line) (xs : List Spoken) (i : ℕ) (d : Spoken) → i < length xs
    → get_or xs i d ≡ Sync
    → gathered rounds round (drop i xs) ≡ gathered (rounds ++ round ∷ []) [] (drop (i + 1) xs)
sync_more rounds round xs i d within is =
    rw (drop_more xs i d within, is)
    (sync_in rounds round (rounds_of (drop (i + 1) xs)) (nothing_in_front (drop (i + 1) xs)))

-- a line of an actor goes to the round
pub line_more : (rounds : Rounds) (round : List code.Line) (xs : List Spoken) (i : ℕ) (d : Spoken) (l : code.Line)
    → i < length xs → get_or xs i d ≡ Line l
    → gathered rounds round (drop i xs) ≡ gathered rounds (round ++ l ∷ []) (drop (i + 1) xs)
line_more rounds round xs i d l within is =
    rw (drop_more xs i d within, is) (ap (λ r. rounds ++ r) (line_in round l (slice_split is_sync (drop (i + 1) xs))))

-- at the end the round is the last one
pub no_more : (rounds : Rounds) (round : List code.Line) (xs : List Spoken) (i : ℕ) → length xs ≤ i
    → gathered rounds round (drop i xs) ≡ rounds ++ round ∷ []
no_more rounds round xs i past = rw (drop_of_length-le xs past, append-nil round) refl

pub ruleset cutting = (nothing_in_front, nothing_more, sync_more, line_more, no_more)

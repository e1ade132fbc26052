-- What each line of a script is, and which are refused: K1, K2, K3.
use Rattle.std.specs.Prelude.{ℕ, ◌+◌, ◌&&◌, nat_le, nat_lt, not, Bool, true, false, if◌then◌else◌, Option, None, Some}
use Rattle.std.specs.Prelude.{List, [], ◌∷◌, reverse, take, take_while, count_by, codes, Result, Ok, Err}
use Rattle.std.specs.Option.{option_map, option_map_or}
use Rattle.std.specs.Str.{bytes_eq}
use Rattle.iocm_types.specs.declared.fault.Fault.{Fault}
use Rattle.iocm_types.specs.declared.rule.Rule.TheVariants.{K1, K2, K3}
use Rattle.iocm_types.specs.Each.{each}
use Rattle.iocm_types.specs.Fault.{◌>>=◌, or_fault, at}
use Rattle.iocm_columns.specs.declared.card.Card.{Card}
use Rattle.iocm_script.specs.declared.line.Spoken as spoken
use Rattle.iocm_script.specs.declared.line.Spoken.TheVariants.{Nothing, Sync, Line}
use Rattle.iocm_script.specs.declared.said.OperatorCommand.TheVariants.{Activate, Begin}
use Rattle.iocm_script.specs.declared.said.Said.{Said}
use Rattle.iocm_script.specs.declared.said.Said.TheVariants.{Operator}
use Rattle.iocm_script.specs.Commands.{said}
use Rattle.iocm_script.specs.Words.{is_comment, words_of}

-- one word that is sync
abbrev pub sync : List ℕ → Option spoken.Spoken
sync word = if bytes_eq word (codes "sync") then Some Sync else None

-- a line in which an actor says something
abbrev pub actors_line : ℕ → List ℕ → List ℕ → List (List ℕ) → Option spoken.Spoken
actors_line line actor word operands =
    option_map (λ s. Line (record { line = line; said = s })) (said actor word operands)

-- what the words of a line say: nothing, that a round ends, or a command of an actor
abbrev pub spoken_by : ℕ → List (List ℕ) → Option spoken.Spoken
spoken_by line [] = Some Nothing
spoken_by line (word ∷ []) = sync word
spoken_by line (actor ∷ word ∷ operands) = actors_line line actor word operands

-- what a card is; a comment is nothing
abbrev pub spoken_on : Card → Option spoken.Spoken
spoken_on card = if is_comment card.bytes then Some Nothing else spoken_by card.line (words_of card.bytes)

-- the number of the change deck that a command names, if it names one
abbrev pub deck_said : Said → Option ℕ
deck_said (Operator actor (Activate k)) = Some k
deck_said (Operator actor (Begin k)) = Some k
deck_said _ = None

abbrev pub deck_of : spoken.Spoken → Option ℕ
deck_of (Line l) = deck_said l.said
deck_of _ = None

-- a change deck that is over the number of those that there are
abbrev pub names_no_deck : ℕ → spoken.Spoken → Bool
names_no_deck changes s = option_map_or (λ k. nat_lt changes k) (deck_of s) false

-- what an operator says
abbrev pub is_operators_said : Said → Bool
is_operators_said (Operator actor command) = true
is_operators_said _ = false

-- a line of an operator
abbrev pub is_operators : spoken.Spoken → Bool
is_operators (Line l) = is_operators_said l.said
is_operators _ = false

-- the end of a round
abbrev pub is_sync : spoken.Spoken → Bool
is_sync Sync = true
is_sync _ = false

-- how many lines of operators these cards have behind their last sync, which is how many the round
-- has so far
abbrev pub operators_in : List Card → ℕ
operators_in cards =
    count_by (λ c. option_map_or is_operators (spoken_on c) false)
    (take_while (λ c. not (option_map_or is_sync (spoken_on c) false)) (reverse cards))

-- the same behind one line more
abbrev pub operators_after : ℕ → spoken.Spoken → ℕ
operators_after operators Nothing = operators
operators_after operators Sync = 0
operators_after operators (Line l) = if is_operators (Line l) then operators + 1 else operators

-- a line of an operator behind fourteen others of its round
abbrev pub is_too_many : ℕ → spoken.Spoken → Bool
is_too_many operators s = is_operators s && nat_le 14 operators

-- what a card is, with so many lines of operators before it in its round; no line of a script is
-- K1, a change deck that isn't there K2, a line of an operator too many K3, in this order
abbrev pub spoken_at : ℕ → ℕ → Card → Result spoken.Spoken Fault
spoken_at changes operators card =
    or_fault (at K1 card.line) (spoken_on card) >>= λ s.
    if names_no_deck changes s then Err (at K2 card.line)
    else (if is_too_many operators s then Err (at K3 card.line) else Ok s)

-- what each card is, or the fault of the first that has one
abbrev pub lines_of : ℕ → List Card → Result (List spoken.Spoken) Fault
lines_of changes cards = each (λ i card. spoken_at changes (operators_in (take i cards)) card) 0 cards

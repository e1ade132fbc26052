-- The statements of a deck.
use Rattle.std.specs.Prelude.{ℕ, List, [], ◌∷◌, ◌++◌, map, Option, None, Some, Result, Ok, Err, if◌then◌else◌}
use Rattle.std.specs.List.{fold}
use Rattle.iocm_types.specs.declared.fault.Fault.{Fault}
use Rattle.iocm_types.specs.Fault.{◌>>=◌}
use Rattle.iocm_columns.specs.declared.card.Card.{Card}
use Rattle.iocm_columns.specs.declared.joined.Joined.{Joined}
use Rattle.iocm_columns.specs.declared.statement_card.StatementCard.{StatementCard}
use Rattle.iocm_columns.specs.Cards.{cards_of}
use Rattle.iocm_columns.specs.Columns.{is_continued, name_of, operation_of, behind_operation, continuation_area}
use Rattle.iocm_columns.specs.Part.{Part, part_after, continued}
use Rattle.iocm_columns.specs.StatementCards.{statement_cards, first_continuation_fault}

-- some cards with those of the first group behind them
abbrev pub onto_group : List StatementCard → List (List StatementCard) → List (List StatementCard)
onto_group rs [] = rs ∷ []
onto_group rs (group ∷ more) = (rs ++ group) ∷ more

-- the cards of a deck by statements: each continued card belongs to the statement of the next one
unfoldable pub groups : List StatementCard → List (List StatementCard)
groups [] = []
groups (r ∷ rs) = if is_continued r.columns then onto_group (r ∷ []) (groups rs) else (r ∷ []) ∷ groups rs

-- a part with a continuation
abbrev pub with_continuation : Part → StatementCard → Part
with_continuation part r = continued part.going part.text (continuation_area r.columns)

-- the operand part of a card and its continuations
abbrev pub part_of : StatementCard → List StatementCard → Part
part_of r rs = fold with_continuation (part_after [] (behind_operation r.columns)) rs

-- a card and its continuations as a statement
abbrev pub statement_of : List StatementCard → Joined
statement_of [] = record { line = 0; name = []; operation = []; text = [] }
statement_of (r ∷ rs) = record {
  line = r.line;
  name = name_of r.columns;
  operation = operation_of r.columns;
  text = (part_of r rs).text;
}

-- the statements of some cards, unless there is a fault between them
abbrev pub unless_fault : Option Fault → List StatementCard → Result (List Joined) Fault
unless_fault (Some fault) cards = Err fault
unless_fault None cards = Ok (map statement_of (groups cards))

-- the statements of a deck, or its first fault (L3, L4) by place
abbrev pub statements_of : List Card → Result (List Joined) Fault
statements_of cards = unless_fault (first_continuation_fault (statement_cards cards)) (statement_cards cards)

-- the statements of the bytes of a deck, or its first fault: that of a line comes before that of a
-- card
abbrev pub joined_of : List ℕ → Result (List Joined) Fault
joined_of bytes = cards_of bytes >>= statements_of

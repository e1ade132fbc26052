-- The statement cards of a deck, and the faults between neighbours.
use Rattle.std.specs.Prelude.{ℕ, not, List, [], ◌∷◌, map, Option, None, Some, Result, Ok, if◌then◌else◌}
use Rattle.std.specs.List.{filter}
use Rattle.std.specs.Option.{option_or}
use Rattle.iocm_types.specs.declared.fault.Fault.{Fault}
use Rattle.iocm_types.specs.declared.rule.Rule.TheVariants.{L3, L4}
use Rattle.iocm_types.specs.Fault.{◌>>=◌, at}
use Rattle.iocm_columns.specs.declared.card.Card.{Card}
use Rattle.iocm_columns.specs.declared.statement_card.StatementCard.{StatementCard}
use Rattle.iocm_columns.specs.Cards.{cards_of}
use Rattle.iocm_columns.specs.Columns.{columns_of, is_skipped, is_continued, has_margin}

-- a card as a statement card
abbrev pub statement_card : Card → StatementCard
statement_card card = record { line = card.line; columns = columns_of card.bytes }

-- the statement cards of a deck: its cards without comments and blank lines
abbrev pub statement_cards : List Card → List StatementCard
statement_cards cards = filter (λ r. not (is_skipped r.columns)) (map statement_card cards)

-- the statement cards of the bytes of a deck, or the fault of the first line that is refused
abbrev pub rows_of : List ℕ → Result (List StatementCard) Fault
rows_of text = cards_of text >>= λ cards. Ok (statement_cards cards)

-- L3 where columns 1 to 15 of a continuation are not blank
abbrev pub margin_fault : StatementCard → Option Fault
margin_fault c = if has_margin c.columns then None else Some (at L3 c.line)

-- the fault between a card and the next one: a continued card needs a continuation (L4) with blank
-- columns 1 to 15
abbrev pub continuation_fault : StatementCard → List StatementCard → Option Fault
continuation_fault r [] = if is_continued r.columns then Some (at L4 r.line) else None
continuation_fault r (c ∷ rs) = if is_continued r.columns then margin_fault c else None

-- the first fault of a deck's cards
unfoldable pub first_continuation_fault : List StatementCard → Option Fault
first_continuation_fault [] = None
first_continuation_fault (r ∷ rs) = option_or (continuation_fault r rs) (first_continuation_fault rs)

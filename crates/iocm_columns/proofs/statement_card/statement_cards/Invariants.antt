use Rattle.std.proofs.Common.{◌≡◌, ◌+◌, ◌≤◌, length}
use Rattle.std.specs.Str.Lines.{lines}
use Rattle.iocm_types.specs.Each.{each}
use Rattle.iocm_columns.specs.Cards.{card_of}
use Rattle.iocm_columns.specs.StatementCards.{rows_of}
use Rattle.iocm_columns.proofs.Gathering.{with_rows}
use Rattle.iocm_columns.proofs.statement_card.statement_cards.Given as goal

abbrev pub invariant-loop-line : goal.invariant-loop-line
invariant-loop-line l = record {
  gathered : with_rows l.found.items (each card_of (l.above + 1) (lines l.rest)) ≡ rows_of l.text;
  counted : l.above + length l.rest ≤ length l.text;
}

abbrev pub decreases-loop-line : goal.decreases-loop-line
decreases-loop-line l = length l.rest

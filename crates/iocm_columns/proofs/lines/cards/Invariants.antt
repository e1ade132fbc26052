use Rattle.std.proofs.Common.{◌≡◌, ◌+◌, ◌≤◌, length}
use Rattle.std.specs.Str.Lines.{lines}
use Rattle.iocm_types.specs.Each.{each, after_front}
use Rattle.iocm_columns.specs.Cards.{card_of}
use Rattle.iocm_columns.proofs.lines.cards.Given as goal

abbrev pub invariant-loop-line : goal.invariant-loop-line
invariant-loop-line l = record {
  gathered : after_front l.cards.items (each card_of (l.above + 1) (lines l.rest)) ≡ each card_of 1 (lines l.text);
  counted : l.above + length l.rest ≤ length l.text;
}

abbrev pub decreases-loop-line : goal.decreases-loop-line
decreases-loop-line l = length l.rest

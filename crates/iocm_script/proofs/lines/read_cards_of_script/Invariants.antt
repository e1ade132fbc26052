use Rattle.std.proofs.Common.{◌≡◌, ◌≤◌, take, drop}
use Rattle.iocm_types.specs.Each.{each, after_front}
use Rattle.iocm_script.specs.Lines.{lines_of, operators_in, spoken_at}
use Rattle.iocm_script.proofs.lines.read_cards_of_script.Given as goal

abbrev pub invariant-loop-card : goal.invariant-loop-card
invariant-loop-card l = record {
  gathered : after_front l.lines.items
      (each (λ i card. spoken_at l.changes (operators_in (take i l.cards)) card) l.card-index
      (drop l.card-index l.cards))
      ≡ lines_of l.changes l.cards;
  counted : l.operators ≡ operators_in (take l.card-index l.cards);
  few : l.operators ≤ l.card-index;
}

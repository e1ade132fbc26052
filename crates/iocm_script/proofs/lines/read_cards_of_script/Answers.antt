-- A card that is read goes to those before it; one that is refused is the answer.
use Rattle.std.proofs.Common.{◌+◌, ◌<◌, length, drop, rules, sym, ap, ◌∙◌, arith}
use Rattle.iocm_types.specs.Each.{each, after_front}
use Rattle.iocm_script.specs.Lines.{lines_of}
use Rattle.iocm_script.proofs.Counting.{reader, card_goes_on, card_refused, one_card_more}
use Rattle.iocm_script.proofs.lines.read_cards_of_script.Goals as goal

pub loop-card-preserved : goal.loop-card-preserved
loop-card-preserved c =
    let cards = c.args.cards.now in
    let i = c.loop-card.card-index in
    let s = c.in_ok-read_card.field-0 in
    let within : i < length cards = omega arith in
    let goes_on = card_goes_on c.args.changes c.loop-card.lines.items cards i c.loop-card.operators c.card-item.result s
    within c.card-item.is c.loop-card.invariant.counted c.in_ok-read_card.ensures.spoken in
    record {
      gathered = ap (λ items. after_front items (each (reader c.args.changes cards) (i + 1) (drop (i + 1) cards)))
          c.in_ok-push.ensures.items
          ∙ sym goes_on ∙ c.loop-card.invariant.gathered;
      counted = c.in_ok-read_card.ensures.count
          ∙ one_card_more cards i c.card-item.result s c.loop-card.operators within c.card-item.is
          c.in_ok-read_card.ensures.said c.loop-card.invariant.counted;
      few = omega (arith, c.in_ok-read_card.ensures.most, c.loop-card.invariant.few);
    }

pub returns-in_err-read_card : goal.returns-in_err-read_card
returns-in_err-read_card c =
    let within : c.loop-card.card-index < length c.args.cards.now = omega arith in
    let refused = card_refused c.args.changes c.loop-card.lines.items c.args.cards.now c.loop-card.card-index
    c.loop-card.operators c.card-item.result
    c.in_err-read_card.field-0.0 (lines_of c.args.changes c.args.cards.now) within c.card-item.is
    c.loop-card.invariant.counted
    c.loop-card.invariant.gathered c.in_err-read_card.ensures.spoken in
    search (rules, refused)

-- A text can't be read, or the deck is refused, or the command goes on from it.
use Rattle.std.proofs.Common.{ℕ, List, Vec, Global, inl, inr, map, ap}
use Rattle.iocm_answer.specs.Commands.{IsMeant}
use Rattle.iocm_answer.proofs.Reading.{none_read}
use Rattle.iocm_answer.proofs.Told.{tells_refusal, tells_said, tells_stop, text_left, texts_left}
use Rattle.iocm_answer.proofs.whole.read_answered.Goals as goal

pub returns-in_err-bytes-clause-text : goal.returns-in_err-bytes-clause-text
returns-in_err-bytes-clause-text g c =
    let deck = text_left g.R.Read.remaining c.args.deck.now in
    let given = c.from_residual in
    (deck.0, deck.1, tells_stop c.args.manner _ given.result c.in_err-bytes.field-0.0 _ given.ensures c.in_err-bytes.ensures.stops)

pub returns-in_err-begun-clause-text : goal.returns-in_err-begun-clause-text
returns-in_err-begun-clause-text g c =
    let others = texts_left g.R.Read.remaining c.args.others.now in
    let given = c.from_residual-in_err-begun in
    let why = c.in_err-begun.field-0.0 in
    let due = rw c.deref.ensures.value at c.in_err-begun.ensures.refusal in (
      c.in_ok-bytes.bytes.items,
      c.in_ok-bytes.ensures.text.0,
      tells_refusal c.args.manner _ given.result why given.ensures
          (elim due [ inl memory ↦ inr memory | inr is ↦ inl (others.0, others.1, is c.args.manner others.0) ]),
    )

pub returns-in_err-texts-clause-text : goal.returns-in_err-texts-clause-text
returns-in_err-texts-clause-text g c =
    let given = c.from_residual-in_err-texts in (
      c.in_ok-bytes.bytes.items,
      c.in_ok-bytes.ensures.text.0,
      tells_stop c.args.manner _ given.result c.in_err-texts.field-0.0 _ given.ensures c.in_err-texts.ensures.stops,
    )

pub returns-clause-text : goal.returns-clause-text
returns-clause-text g c =
    let bytes = c.in_ok-bytes.bytes.items in
    let items : Vec ℕ Global → List ℕ = λ t. t.items in
    let texts = map items c.in_ok-texts.texts.items in
    let opened = rw c.deref.ensures.value at c.in_ok-begun.ensures.opened in (
      bytes,
      c.in_ok-bytes.ensures.text.0,
      tells_said c.args.manner _ c.given_of.result (IsMeant c.args.manner c.args.command.now bytes texts) c.finish.result c.given_of.ensures
          (λ what is. (texts, c.in_ok-texts.ensures.texts, is))
          (rw (ap (map items) c.deref-2.ensures.value) at c.finish.ensures.text c.args.manner.input bytes opened),
    )

pub returns-in_err-bytes-clause-reads_others : goal.returns-in_err-bytes-clause-reads_others
returns-in_err-bytes-clause-reads_others g c = none_read g.R.Read.remaining c.args.limit c.args.others.now

pub returns-in_err-begun-clause-reads_others : goal.returns-in_err-begun-clause-reads_others
returns-in_err-begun-clause-reads_others g c = none_read g.R.Read.remaining c.args.limit c.args.others.now

-- Of a word that isn't full the lowest bit that isn't set is the first of all, and a full word has
-- none.
use Rattle.std.proofs.Common.{arith, w64, ◌+◌, slice_index_or, sym, ap, ◌∙◌}
use Rattle.std.specs.Int.{trailing_ones}
use Rattle.iocm_numbers.proofs.BitWords.{first_clear, one_more_full}
use Rattle.iocm_numbers.proofs.bits.lowest_clear.Goals as goal

pub returns-then-word-clause-some : goal.returns-then-word-clause-some
returns-then-word-clause-some c = first_clear c.args.words.now c.args.first c.loop-place.place c.loop-place.invariant
    c.trailing_ones.result
    (omega (arith, c.type_inv.words (c.args.first + c.loop-place.place)))
    (λ full. c.if-word.true (ap (λ i. slice_index_or c.args.words.now (c.args.first + i) 0) c.from.ensures ∙ full))
    (c.trailing_ones.ensures
    ∙ ap (λ i. trailing_ones w64 (slice_index_or c.args.words.now (c.args.first + i) 0)) c.from.ensures)

pub loop-place-preserved : goal.loop-place-preserved
loop-place-preserved c = one_more_full c.args.words.now c.args.first c.loop-place.place c.loop-place.invariant
    (ap (λ i. slice_index_or c.args.words.now (c.args.first + i) 0) (sym c.from.ensures) ∙ c.if-word.false)

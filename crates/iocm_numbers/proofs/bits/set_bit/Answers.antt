-- The bit of its word is set, and no other.
use Rattle.std.proofs.Common.{◌%◌, ap, nat_eq, ◌∙◌, arith, w64}
use Rattle.std.proofs.lemmas.Nat.Bits.{bit_at_set_same, bit_at_set_other}
use Rattle.iocm_numbers.proofs.BitWords.{bit_here, bit_elsewhere, small_rest}
use Rattle.iocm_numbers.proofs.bits.set_bit.Goals as goal

pub returns-clause-here : goal.returns-clause-here
returns-clause-here c = bit_here c.args.words.now c.args.bit _ (omega (arith, c.requires))
    ∙ ap (λ b. nat_eq b 1) (bit_at_set_same w64 _ (c.args.bit % 64) (small_rest c.args.bit))

pub returns-clause-others : goal.returns-clause-others
returns-clause-others c = bit_elsewhere c.args.words.now c.args.bit _ (omega (arith, c.requires))
    (λ i _ apart. bit_at_set_other w64 _ (c.args.bit % 64) (small_rest c.args.bit) i apart)

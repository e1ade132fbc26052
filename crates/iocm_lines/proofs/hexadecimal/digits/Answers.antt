-- The digits are in the table, two for each byte.
use Rattle.std.proofs.Common.{◌+◌, ◌*◌, ◌∷◌, [], ap, ◌∙◌, get_or}
use Rattle.iocm_lines.specs.declared.hexadecimal.TheConstants.{PAIRS}
use Rattle.iocm_lines.proofs.Hex.{digits_at}
use Rattle.iocm_lines.proofs.hexadecimal.digits.Goals as goal

pub returns : goal.returns
returns c =
    let pair = digits_at c.args.value c.ranges.value.fits in
    let high = c.pair_digit.ensures ∙ ap (λ v. get_or PAIRS (2 * v) 0) c.from-at.ensures ∙ pair.0 in
    let low = c.pair_digit-2.ensures ∙ ap (λ v. get_or PAIRS (2 * v + 1) 0) c.from-at.ensures ∙ pair.1 in
    λ i. high i ∷ low i ∷ []

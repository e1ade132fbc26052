use Rattle.std.proofs.Common.{arith, refl}
use Rattle.iocm_lines.proofs.Hex.{hex4_pairs}
use Rattle.iocm_lines.proofs.parts.four_digits.Goals as goal

pub returns : goal.returns
returns c = rw (hex4_pairs c.args.number (omega arith), c.digits.ensures, c.digits-2.ensures) refl

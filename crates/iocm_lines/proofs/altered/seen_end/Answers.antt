use Rattle.std.proofs.Common.{arith, refl}
use Rattle.iocm_values.proofs.Numerals.{hex2_text}
use Rattle.iocm_lines.proofs.altered.seen_end.Goals as goal

pub returns : goal.returns
returns c = rw (hex2_text c.args.view.now.pim (omega arith), c.digits.ensures, c.bits.ensures) refl

use Rattle.std.proofs.Common.{ap, arith}
use Rattle.iocm_values.proofs.Numerals.{glyph}
use Rattle.iocm_lines.proofs.hexadecimal.digit.Goals as goal

pub returns : goal.returns
returns c = rw c.digits.ensures (ap glyph (omega arith))

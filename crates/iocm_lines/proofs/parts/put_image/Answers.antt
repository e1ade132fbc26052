use Rattle.std.proofs.Common.{arith, refl}
use Rattle.iocm_values.proofs.Numerals.{hex1_text}
use Rattle.iocm_lines.proofs.parts.put_image.Goals as goal

pub returns-clause-text : goal.returns-clause-text
returns-clause-text c =
    rw (
      c.put.ensures.text,
      c.digit-css.ensures,
      c.digit-mif.ensures,
      c.number.ensures.value,
      c.number-2.ensures.value,
      hex1_text c.args.image.now.css (omega arith),
      hex1_text c.args.image.now.mif (omega arith),
    ) refl

use Rattle.std.proofs.Common.{◌++◌, codes, false, sym, ap, ◌∙◌, arith}
use Rattle.std.proofs.Output.{has_written_of_eq}
use Rattle.std.proofs.lemmas.Fmt.{hex_byte}
use Rattle.iocm_lines.proofs.Escapes.{escape_ascii, short_escape, long_escape, char_stays}
use Rattle.iocm_lines.proofs.quoted.EscapedDisplay.fmt.Goals as goal

pub returns-in-Some-clause-writes : goal.returns-in-Some-clause-writes
returns-in-Some-clause-writes g c = λ plain ok.
    let h = c.in-Some.ensures in
    has_written_of_eq _ _ _ _ _ (short_escape c.args.self.now.0 c.in-Some.letter (sym h.letter) h.some h.ascii)
    (c.write.ensures.writes plain ok)

pub returns-in-None-clause-writes : goal.returns-in-None-clause-writes
returns-in-None-clause-writes g c = λ plain ok.
    let code = c.args.self.now.0 in
    let escaped = escape_ascii code (omega arith) ∙ long_escape code (sym c.in-None.ensures.letter) c.if-code-lt32.true in
    let wrote = rw (c.laid_out.ensures, c.in_radix.ensures) at c.write-in-None.ensures.writes in
    has_written_of_eq _ _ _ _ _ (ap (λ l. codes "\\u00" ++ l) (hex_byte false code (omega arith)) ∙ sym escaped)
    (wrote plain ok)

pub returns-in-None-2-clause-writes : goal.returns-in-None-2-clause-writes
returns-in-None-2-clause-writes g c =
    rw (char_stays c.args.self.now.0 (sym c.in-None-2.ensures.letter) c.if-code-lt32.false)
    c.write_char.ensures.writes

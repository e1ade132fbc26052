use Rattle.iocm_record_lines.proofs.Escapes.{long_escape, no_escape}
use Rattle.iocm_record_lines.proofs.quoting.put_long_escaped.Goals as goal

pub returns-then-byte-lt32 : goal.returns-then-byte-lt32
returns-then-byte-lt32 c =
    rw (long_escape c.args.byte c.requires c.if-byte-lt32.true, ← c.digit-high.ensures, ← c.digit-low.ensures)
    c.in_ok-extend_from_slice.ensures.items

pub returns : goal.returns
returns c = rw (no_escape c.args.byte c.requires c.if-byte-lt32.false) c.in_ok-push.ensures.items

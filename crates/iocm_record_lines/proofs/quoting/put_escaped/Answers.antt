use Rattle.std.proofs.Common.{subst, sym, ◌<◌}
use Rattle.iocm_record_lines.proofs.Escapes.{short_escape}
use Rattle.iocm_record_lines.proofs.quoting.put_escaped.Goals as goal

pub returns-in_ok-extend_from_slice-in-Some : goal.returns-in_ok-extend_from_slice-in-Some
returns-in_ok-extend_from_slice-in-Some c =
    let letter = c.in-Some.ensures.letter in
    rw (short_escape c.args.byte (subst (λ n. 0 < n) letter c.in-Some.ensures.some), ← letter)
    c.in_ok-extend_from_slice-in-Some.ensures.items

pub put_long_escaped-requires : goal.put_long_escaped-requires
put_long_escaped-requires c = sym c.in-None.ensures.letter

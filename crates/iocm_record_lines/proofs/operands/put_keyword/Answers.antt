use Rattle.iocm_record_lines.proofs.Parts.{keyword_put}
use Rattle.iocm_record_lines.proofs.operands.put_keyword.Goals as goal

pub returns : goal.returns
returns g c =
    rw (
      c.in_ok-push.ensures.items,
      c.in_ok-put_quoted.ensures,
      c.in_ok-extend_from_slice.ensures.items,
      c.as_slice.ensures,
      c.in-Some.is,
    ) (keyword_put c.args.text.now.items c.in-Some.keyword.now)

use Rattle.iocm_record_lines.proofs.Parts.{operand_put}
use Rattle.iocm_record_lines.proofs.operands.put_operand.Goals as goal

pub returns : goal.returns
returns g c =
    rw (
      c.in_ok-push-2.ensures.items,
      c.in_ok-put_quoted.ensures,
      c.as_slice.ensures,
      c.text.ensures,
      c.in_ok-extend_from_slice.ensures.items,
      c.in_ok-put_keyword.ensures,
      c.keyword.ensures,
      c.in_ok-push.ensures.items,
    ) (operand_put c.args.text.now.items c.args.operand.now)

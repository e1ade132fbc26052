use Rattle.iocm_list_lines.proofs.Parts.{seen_put}
use Rattle.iocm_list_lines.proofs.seen.put_seen.Goals as goal

pub returns : goal.returns
returns c =
    rw (
      c.in_ok-push.ensures.items,
      c.in_ok-put_member-3.ensures,
      c.in_ok-put_word.ensures,
      c.as_bytes.ensures.bytes,
      c.in_ok-put_member-2.ensures,
      c.in_ok-put_member.ensures,
    ) (seen_put c.args.text.now.items c.args.seen.now)

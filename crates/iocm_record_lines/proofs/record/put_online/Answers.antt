use Rattle.iocm_record_lines.proofs.Parts.{online_put}
use Rattle.iocm_record_lines.proofs.record.put_online.Goals as goal

pub returns : goal.returns
returns c =
    rw (c.in_ok-put-2.ensures, c.in_ok-put_quoted.ensures, c.as_bytes.ensures.bytes, c.in_ok-put.ensures)
    (online_put c.args.text.now.items (record { css = c.args.css; path = c.args.path; name = c.args.name.now }))

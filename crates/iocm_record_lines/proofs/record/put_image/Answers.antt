use Rattle.iocm_record_lines.proofs.Parts.{image_put}
use Rattle.iocm_record_lines.proofs.record.put_image.Goals as goal

pub returns : goal.returns
returns c =
    rw (c.in_ok-push.ensures.items, c.in_ok-put_quoted.ensures, c.as_bytes.ensures.bytes, c.in_ok-put.ensures)
    (image_put c.args.text.now.items (record { css = c.args.css; mif = c.args.mif; name = c.args.name.now }))

use Rattle.iocm_lines.proofs.InParts.{line_in_parts, name_has_letters}
use Rattle.iocm_lines.proofs.parts.SubchannelParts.renew.Goals as goal

pub returns : goal.returns
returns c = record {
  fit = record {
    front = c.put_front.ensures.length;
    middle = c.put_middle.ensures.length;
    back = c.put_back.ensures.length;
  };
  line = λ number device small low.
      rw (c.put_front.ensures.text, c.put_middle.ensures.text, c.put_back.ensures.text)
      (line_in_parts c.args.image.now c.args.name.now c.args.set c.args.view.now c.put_front.ensures.css
      c.put_middle.ensures.mif c.put_back.ensures.set c.put_back.ensures.pim c.put_front.ensures.pam
      c.put_middle.ensures.paths (name_has_letters c.args.name.now c.put_middle.ensures.name) number device small low);
}

use Rattle.std.proofs.Common.{append_assoc}
use Rattle.iocm_lines.proofs.parts.SubchannelParts.put_line.Goals as goal

pub returns-clause-text : goal.returns-clause-text
returns-clause-text c =
    rw (
      c.put-7.ensures.text,
      c.put-6.ensures.text,
      c.put-5.ensures.text,
      c.put-4.ensures.text,
      c.put-3.ensures.text,
      c.put-2.ensures.text,
      c.put.ensures.text,
      c.requires.none,
      c.as_slice.ensures.value,
      c.as_slice-2.ensures.value,
      c.as_slice-3.ensures.value,
      c.four_digits-number.ensures,
      c.four_digits-device.ensures,
      c.number.ensures,
    ) (simp append_assoc)

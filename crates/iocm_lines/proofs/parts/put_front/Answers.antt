use Rattle.std.proofs.Common.{arith, codes, [], ◌∷◌}
use Rattle.iocm_values.proofs.Numerals.{glyph, hex1_text}
use Rattle.serde_json.specs.Written.{compact_text}
use Rattle.iocm_lines.specs.Members.{path_list}
use Rattle.iocm_lines.specs.Subchannel.{paths_in}
use Rattle.iocm_lines.proofs.InParts.{front_together}
use Rattle.iocm_lines.proofs.parts.put_front.Goals as goal

pub returns-clause-text : goal.returns-clause-text
returns-clause-text c =
    rw (
      c.put-3.ensures.text,
      c.push.ensures.items,
      c.put-2.ensures.text,
      c.put_paths.ensures.text,
      c.put.ensures.text,
      c.clear.ensures,
      c.as_slice.ensures.list,
      c.bits.ensures,
      c.digit.ensures,
      c.number.ensures.value,
      hex1_text c.args.image.now.css (omega arith),
    )
    (let v = c.args.view.now in
    front_together (codes "{\"available\":") (compact_text (path_list (paths_in v.pam v.paths))) (codes ",\"css\":")
    (glyph c.args.image.now.css ∷ []) (codes ",\"device\":\""))

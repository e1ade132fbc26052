use Rattle.std.proofs.Common.{arith, codes, [], ◌∷◌, ◌/◌, ◌%◌}
use Rattle.iocm_values.proofs.Numerals.{glyph, hex1_text, hex2_text}
use Rattle.serde_json.specs.Written.{compact_text}
use Rattle.iocm_lines.specs.Members.{image_name, path_list}
use Rattle.iocm_lines.specs.Subchannel.{paths_in}
use Rattle.iocm_lines.proofs.InParts.{back_together}
use Rattle.iocm_lines.proofs.parts.put_back.Goals as goal

pub returns-clause-text : goal.returns-clause-text
returns-clause-text c =
    rw (
      c.put-8.ensures.text,
      c.put_image.ensures.text,
      c.put-7.ensures.text,
      c.push.ensures.items,
      c.put-6.ensures.text,
      c.put-5.ensures.text,
      c.put-4.ensures.text,
      c.put_paths.ensures.text,
      c.put-3.ensures.text,
      c.put-2.ensures.text,
      c.put.ensures.text,
      c.clear.ensures,
      c.as_slice.ensures.list,
      c.digits.ensures,
      c.digits-2.ensures,
      c.bits.ensures,
      c.bits-2.ensures,
      c.digit-set.ensures,
      c.number.ensures.value,
      hex1_text c.args.set (omega arith),
      hex2_text c.args.view.now.pim (omega arith),
      hex2_text c.args.view.now.pam (omega arith),
    )
    (let v = c.args.view.now in
    back_together (codes "\",\"pam\":\"") (glyph (v.pam / 16) ∷ glyph (v.pam % 16) ∷ []) (codes "\",\"paths\":")
    (compact_text (path_list (paths_in 255 v.paths))) (codes ",\"pim\":\"")
    (glyph (v.pim / 16) ∷ glyph (v.pim % 16) ∷ []) (codes "\",\"set\":") (glyph c.args.set ∷ [])
    (codes ",\"subchannel\":\"") (image_name c.args.image.now) (46 ∷ glyph c.args.set ∷ 46 ∷ []))

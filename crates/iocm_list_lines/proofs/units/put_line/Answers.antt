use Rattle.std.proofs.Common.{◌∷◌, [], append_assoc}
use Rattle.serde_json.specs.Written.{compact_text}
use Rattle.iocm_list_lines.specs.Units.{unit_line, unit_value}
use Rattle.iocm_list_lines.proofs.units.put_line.Goals as goal

pub returns : goal.returns
unfolding unit_line
returns c =
    rw (c.in_ok-push.ensures.items, c.in_ok-put_row.ensures)
    (append_assoc c.args.text.now.items (compact_text (unit_value c.args.row.now)) (10 ∷ []))

-- The heading and the lines, where there are any.
use Rattle.std.proofs.Common.{◌++◌, sym, ap, ◌∙◌}
use Rattle.std.specs.List.{flat_map}
use Rattle.iocm_offon_text.specs.Texts.{heading, line_text}
use Rattle.iocm_offon_text.proofs.Whole.{behind, some_lines}
use Rattle.iocm_offon_text.proofs.texts.put_section.Goals as goal

pub returns : goal.returns
returns c =
    behind c.args.text.now.items heading (flat_map (line_text c.args.images.now c.args.runs.now) c.args.lines.now)
    c.in_ok-put_heading.ensures c.in_ok-put_lines.ensures
    ∙ ap (λ told. c.args.text.now.items ++ told) (sym (some_lines c.args.images.now c.args.runs.now c.args.lines.now
    (sym c.is_empty.ensures ∙ c.if-is_empty.false)))

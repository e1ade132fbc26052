use Rattle.std.proofs.Common.{sym, ◌∙◌}
use Rattle.iocm_console.proofs.Printing.{writes_nothing}
use Rattle.iocm_console.proofs.Rows.{image_lines-not_kept}
use Rattle.iocm_console.proofs.lines.write_image.Goals as goal

pub returns-then-not-is_image_kept : goal.returns-then-not-is_image_kept
returns-then-not-is_image_kept g c =
    writes_nothing (image_lines-not_kept _ _ _ _ (sym c.is_image_kept.ensures ∙ c.if-not-is_image_kept.true) _)

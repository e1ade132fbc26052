use Rattle.std.proofs.Common.{sym, ◌∙◌, ap}
use Rattle.iocm_record.specs.Meaning.{record_of}
use Rattle.iocm_console.proofs.Printing.{writes_as, writes_nothing}
use Rattle.iocm_console.proofs.Rows.{record_lines-image, record_lines-other}
use Rattle.iocm_console.proofs.lines.write_record.Goals as goal

pub returns-in-Image : goal.returns-in-Image
returns-in-Image g c = writes_as c.write_image.ensures
    (record_lines-image _ _ _ _ _ _ (sym c.body.ensures ∙ ap record_of c.in-Image.is))

pub returns-in_default : goal.returns-in_default
returns-in_default g c =
    writes_nothing (record_lines-other _ _ _ _ _ c.body.result.now c.body.ensures c.in_default.not-Image)

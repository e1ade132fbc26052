-- The lines of the rows so far.
use Rattle.std.proofs.Common.{◌≡◌, take}
use Rattle.std.specs.List.{flat_map}
use Rattle.iocm_list_lines.specs.Images.{image_line}
use Rattle.iocm_list_lines.proofs.images.lines_of.Given as goal

abbrev pub invariant-loop-row : goal.invariant-loop-row
invariant-loop-row l = l.text.items ≡ flat_map image_line (take l.row-index l.rows)

-- The cells of the images so far.
use Rattle.std.proofs.Common.{◌≡◌, map, take}
use Rattle.iocm_words.specs.Table.{rows_of}
use Rattle.iocm_impact_text.specs.Texts.{image_cells}
use Rattle.iocm_impact_text.proofs.image_table.cells_of_all.Given as goal

abbrev pub invariant-loop-image : goal.invariant-loop-image
invariant-loop-image l = rows_of l.cells.items ≡ map image_cells (take l.image-index l.images)

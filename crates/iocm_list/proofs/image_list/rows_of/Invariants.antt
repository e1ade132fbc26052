-- The rows so far, with those of the records that are left, are all.
use Rattle.std.proofs.Common.{◌≡◌, ◌++◌, map}
use Rattle.iocm_list.specs.ImageRows.{image_rows, rows_in}
use Rattle.iocm_list.proofs.image_list.rows_of.Given as goal

abbrev pub invariant-loop-entry : goal.invariant-loop-entry
invariant-loop-entry l = let w = l.listed.filters.now in let c = l.listed.config.now.records in
    l.rows.items ++ rows_in w c (map (λ e. e.1) l.entry-iterator) ≡ image_rows w c

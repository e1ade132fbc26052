use Rattle.std.proofs.Common.{◌≡◌, ◌∷◌, drop, map, take}
use Rattle.iocm_words.specs.Table.{cells_of, first_cell, widest}
use Rattle.iocm_words.proofs.table.width_at.Given as goal

-- the width for the rows so far
abbrev pub invariant-loop-row : goal.invariant-loop-row
invariant-loop-row l =
    l.width ≡ widest (l.heading ∷ map (λ row. first_cell (drop l.place (cells_of row.items))) (take l.row-index l.rows))

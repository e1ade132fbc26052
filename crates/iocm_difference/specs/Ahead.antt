-- A walk with its next row taken out ahead.
use Rattle.std.specs.Prelude.{Option, None, Some, List, [], ◌∷◌}
use Rattle.std.specs.Map.Iter.{deref_pair}
use denote.Ref.{Bor}
use Rattle.iocm_types.specs.declared.key.Key.{Key}
use Rattle.iocm_model.specs.Machine.Record.{Rec}
use Rattle.iocm_difference.specs.Walks.{Row}

-- the rows that are left: the one ahead, then the others; none where no row is ahead
abbrev pub rows_left : Option (Bor Key × Bor Rec) → List Row → List Row
rows_left None rows = []
rows_left (Some ahead) rows = deref_pair ahead ∷ rows

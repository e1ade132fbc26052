-- Rows of two walks by the order of keys: which key is next, and what each walk has there.
use Rattle.std.specs.Prelude.{Option, None, Some, List, [], ◌∷◌, map, if◌then◌else◌}
use Rattle.std.specs.Ordering.{is_gt, eq_by_cmp}
use Rattle.std.specs.FinMap.Entries.{by_order}
use Rattle.iocm_types.specs.declared.key.Key.{Key}
use Rattle.iocm_types.specs.Key.{key_cmp}
use Rattle.iocm_model.specs.Machine.Record.{Rec}
use Rattle.iocm_model.specs.Change.Edit.{Action}
use Rattle.iocm_difference.specs.Difference.{action_between}

-- a key with its record, and a key with what two configurations have there
abbrev pub Row : Type 0
Row = Key × Rec

abbrev pub Pair : Type 0
Pair = Key × (Option Rec × Option Rec)

-- what leads from the one to the other
abbrev pub action_at : Pair → Option Action
action_at p = action_between p.0 p.1.0 p.1.1

-- the key of the next row
abbrev pub next_key : List Row → Option Key
next_key [] = None
next_key (e ∷ es) = Some e.0

-- the lesser of the next keys of two walks
abbrev pub lesser_key : Option Key → Option Key → Option Key
lesser_key None other = other
lesser_key (Some key) None = Some key
lesser_key (Some key) (Some other) = Some (if is_gt (key_cmp key other) then other else key)

-- the record of the next row, if it is that of a key; and the rows after it
abbrev pub record_at : Key → List Row → Option Rec
record_at key [] = None
record_at key (e ∷ es) = if eq_by_cmp key_cmp key e.0 then Some e.1 else None

abbrev pub rows_after : Key → List Row → List Row
rows_after key [] = []
rows_after key (e ∷ es) = if eq_by_cmp key_cmp key e.0 then es else e ∷ es

-- a row that one walk alone has
abbrev pub old_row : Row → Pair
old_row e = (e.0, (Some e.1, None))

abbrev pub new_row : Row → Pair
new_row e = (e.0, (None, Some e.1))

-- a row before the rows of one walk, and the rows of another: what `rest` makes of the others goes
-- on after the row
abbrev pub pairs_from : Row → (List Row → List Pair) → List Row → List Pair
pairs_from e rest [] = old_row e ∷ rest []
pairs_from e rest (f ∷ fs) = by_order (key_cmp e.0 f.0)
    (old_row e ∷ rest (f ∷ fs))
    ((e.0, (Some e.1, Some f.1)) ∷ rest fs)
    (new_row f ∷ pairs_from e rest fs)

-- each key of two walks with what each has there, in the order of keys
abbrev pub pairs_of : List Row → List Row → List Pair
pairs_of [] fs = map new_row fs
pairs_of (e ∷ es) fs = pairs_from e (pairs_of es) fs

-- Lines of records and of edits are read again.
use Rattle.std.specs.Prelude.{◌<◌, ◌^◌, Option, IfSome, ⊤, List, ℕ}
use Rattle.std.specs.List.{AllByRecursion}
use Rattle.iocm_types.specs.declared.key.Key.{Key}
use Rattle.iocm_types.specs.declared.place.Place.{Place}
use Rattle.iocm_types.specs.declared.unit_range.UnitRange.{UnitRange}
use Rattle.iocm_model.specs.Change.Edit.{Action, Edit, record_after}
use Rattle.iocm_model.specs.Machine.Record.{Rec, id, resource, image, limit, path, unit, device, online}
use Rattle.iocm_lines.specs.Again.{IsReadBack}
use Rattle.iocm_record_lines.specs.Edits.{edit_value}
use Rattle.iocm_record_lines.specs.Records.{record_line_value}
use Rattle.iocm_record_lines.specs.Undo.{undo_value}

-- the numbers of a record that are told as numbers have 64 bits
abbrev pub HasNumbers : Rec → Type 0
HasNumbers (id carried) = ⊤
HasNumbers (resource carried) = ⊤
HasNumbers (image r) = r.css < 2 ^ 64
HasNumbers (limit r) = (r.css < 2 ^ 64) × (r.limit < 2 ^ 64) × (r.set < 2 ^ 64)
HasNumbers (path r) = r.css < 2 ^ 64
HasNumbers (unit r) = AllByRecursion (λ (range : UnitRange). range.count < 2 ^ 64) r.ranges
HasNumbers (device r) = r.set < 2 ^ 64
HasNumbers (online r) = r.css < 2 ^ 64

-- so have those of what comes along with an edit
abbrev pub HasSmallPlaces : List (Place × ℕ) → Type 0
HasSmallPlaces places = AllByRecursion (λ (row : Place × ℕ). (row.0.css < 2 ^ 64) × (row.0.set < 2 ^ 64)) places

-- what is read back: the line of a record, that of an edit, and that of an edit that takes a change back
pub record LinesAreReadBack : Type 0 where
  pub record_line : (key : Key) (r : Rec) → HasNumbers r → IsReadBack (record_line_value (key, r))
  pub edit : (before : Option Rec) (action : Action) → IfSome before HasNumbers
      → IfSome (record_after action) HasNumbers → IsReadBack (edit_value before action)
  pub undo : (e : Edit) → IfSome (record_after e.action) HasNumbers → HasSmallPlaces e.places
      → IsReadBack (undo_value e)

-- Reasons by the objects of which they are.
use Rattle.std.specs.Prelude.{Bool, Option, None, Some, List, [], ◌∷◌, filter}
use Rattle.std.specs.FinMap.{get}
use Rattle.std.specs.Ordering.{eq_by_cmp}
use Rattle.iocm_types.specs.Key.{key_cmp}
use Rattle.iocm_types.specs.declared.key.Key.{Key}
use Rattle.iocm_table.specs.Slots.{Stored, rows}
use Rattle.iocm_offon.specs.declared.reason.Reason.{Reason}

-- the reasons of an object
abbrev pub is_under : Key → Reason → Bool
is_under k r = eq_by_cmp key_cmp k r.object

abbrev pub reasons_under : Key → List Reason → List Reason
reasons_under k rs = filter (is_under k) rs

-- those that a table has under a key
abbrev pub group_or_none : Option (List Reason) → List Reason
group_or_none None = []
group_or_none (Some rs) = rs

abbrev pub under : Stored Key (List Reason) → Key → List Reason
under t k = group_or_none (get (rows key_cmp t) k)

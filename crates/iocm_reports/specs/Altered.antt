-- What a change altered: each subchannel with what was seen there before and what is seen there
-- afterwards.
use Rattle.std.specs.Prelude.{List, map}
use Rattle.std.specs.FinMap.{get, keys}
use Rattle.std.specs.List.Sorted.{IsStrictlySortedBy}
use Rattle.iocm_types.specs.declared.sub_id.SubId.{SubId}
use Rattle.iocm_types.specs.SubId.{sub_id_cmp}
use Rattle.iocm_model.specs.Change.Edit.{Edit}
use Rattle.iocm_model.specs.Change.Runs.{effect_of}
use Rattle.iocm_model.specs.Operation.State.{State, views_in}
use Rattle.iocm_seats.specs.declared.view_change.ViewChange.{ViewChange}
use Rattle.iocm_seats.specs.Changes.{view_change}

-- the subchannels that edits altered from a state on, in order, also those where a later edit put
-- back what was seen
abbrev pub subchannels_altered : List Edit → State → List SubId
subchannels_altered es s = keys (effect_of es s).lives

-- for each of them what was seen before the edits, and what is seen in the state after them
abbrev pub altered_rows : List Edit → State → State → List ViewChange
altered_rows es s t = map (view_change (get (views_in s)) (get (views_in t))) (subchannels_altered es s)

-- rows in the order of subchannels, none twice
abbrev pub AreInOrder : List ViewChange → Type 0
AreInOrder rows = IsStrictlySortedBy sub_id_cmp (map (λ (r : ViewChange). r.subchannel) rows)

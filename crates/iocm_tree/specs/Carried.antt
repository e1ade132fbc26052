-- An edit in memory: the edit, and the room that it carries for the way back.
use Rattle.std.specs.Prelude.{ℕ, T, List, []}
use Rattle.std.specs.Map.{keys_of}
use Rattle.std.specs.FinMap.{from_sorted, empty}
use Rattle.std.specs.FinMap.Entries.{is_sorted}
use Rattle.iocm_types.specs.declared.live.Live.{Live}
use Rattle.iocm_types.specs.declared.place.Place.{Place}
use Rattle.iocm_types.specs.declared.sub_id.SubId.{SubId}
use Rattle.iocm_types.specs.SubId.{sub_id_cmp}
use Rattle.iocm_model.specs.Change.Edit.{Action, add, delete, modify, Edit}
use Rattle.iocm_tree.specs.declared.verb.Verb.{Verb}
use Rattle.iocm_tree.specs.declared.verb.Verb.TheVariants as verb
use Rattle.iocm_tree.specs.declared.action.Action as fields
use Rattle.iocm_tree.specs.declared.action.Action.TheVariants as of
use Rattle.iocm_tree.specs.declared.edit.Parts.{Parts}

-- the edit, the numbers that it frees, and the subchannels whose live records it has room for
pub record Carried : Type 0 where
  pub edit : Edit
  pub frees : List (Place × ℕ)
  pub meets : List SubId

-- an edit made by hand: nothing comes along with its action, and it has no room
abbrev pub bare : Action → Carried
bare action = record { edit = record { action = action; places = []; lives = empty }; frees = []; meets = [] }

-- whether an action adds, deletes or modifies
abbrev pub verb_of : Action → Verb
verb_of (add r) = verb.Add
verb_of (delete key) = verb.Delete
verb_of (modify r) = verb.Modify

-- what the fields of an action mean, with no allocator in it
abbrev pub action_of : {A : Type 0} → fields.Action A → Action
action_of (of.Add r) = add r
action_of (of.Delete key) = delete key
action_of (of.Modify r) = modify r

-- the edit of these parts
abbrev pub carried_of : {A : Type 0} → Parts A → Carried
carried_of p = record {
  edit = record { action = action_of p.action; places = p.places.items; lives = from_sorted p.kept.items };
  frees = p.frees.items;
  meets = keys_of p.meets.items;
}

-- rows stand in the order of subchannels, each subchannel once
abbrev pub AreInOrder : List (SubId × Live) → Type 0
AreInOrder rows = T (is_sorted sub_id_cmp rows)

-- the live records that come along stand in order, and so does the room for those on the way back
pub record HasOrder {A : Type 0} (parts : Parts A) : Type 0 where
  pub kept_rise : AreInOrder parts.kept.items
  pub meets_rise : AreInOrder parts.meets.items

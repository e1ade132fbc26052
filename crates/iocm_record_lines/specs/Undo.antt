-- Edits that take a change back, as lines tell them: with what comes along.
use Rattle.std.specs.Prelude.{ℕ, [], ◌∷◌, codes}
use Rattle.std.specs.FinMap.{entries}
use Rattle.iocm_types.specs.declared.live.Live.{Live}
use Rattle.iocm_types.specs.declared.place.Place.{Place}
use Rattle.iocm_types.specs.declared.sub_id.SubId.{SubId}
use Rattle.iocm_types.specs.Key.{key_text}
use Rattle.iocm_types.specs.Print.{hex1, hex2, hex4}
use Rattle.iocm_model.specs.Change.Edit.{Edit, action_key, record_after}
use Rattle.iocm_model.specs.Operation.Orders.{bits_of}
use Rattle.serde_json.specs.Data.{Data, boolean, string}
use Rattle.iocm_tree.specs.Carried.{verb_of}
use Rattle.iocm_lines.specs.Members.{object_of, count, hex8, subchannel_name}
use Rattle.iocm_record_lines.specs.Edits.{any_record_value, verb_text}
use Rattle.iocm_record_lines.specs.Lists.{list_of}

-- the subchannel number that a device had in a channel subsystem
abbrev pub place_value : Place × ℕ → Data
place_value row = let p = row.0 in
    object_of (
    (codes "css", count p.css)
    ∷ (codes "device", string (hex4 p.device))
    ∷ (codes "number", string (hex4 row.1))
    ∷ (codes "set", count p.set) ∷ [])

-- what a subchannel remembered
abbrev pub state_value : SubId × Live → Data
state_value row = let l = row.1 in
    object_of (
    (codes "enabled", boolean l.enabled)
    ∷ (codes "lpm", string (hex2 l.lpm))
    ∷ (codes "parm", string (hex8 l.parm))
    ∷ (codes "scsw", string (hex1 (bits_of l.phase).0))
    ∷ (codes "subchannel", string (subchannel_name row.0)) ∷ [])

-- what is under the key of an edit after it, with the numbers and the states that come along
abbrev pub undo_value : Edit → Data
undo_value e =
    object_of (
    (codes "after", any_record_value (record_after e.action))
    ∷ (codes "key", string (key_text (action_key e.action)))
    ∷ (codes "numbers", list_of place_value e.places)
    ∷ (codes "states", list_of state_value (entries e.lives))
    ∷ (codes "type", string (codes "edit"))
    ∷ (codes "verb", string (verb_text (verb_of e.action))) ∷ [])

-- Edits as lines tell them.
use Rattle.std.specs.Prelude.{ℕ, List, [], ◌∷◌, ◌++◌, codes, Option, None, Some}
use Rattle.std.specs.List.{flat_map}
use Rattle.std.specs.FinMap.{get}
use Rattle.iocm_types.specs.Key.{key_text}
use Rattle.iocm_tree.specs.Carried.{verb_of}
use Rattle.iocm_tree.specs.declared.verb.Verb.{Verb}
use Rattle.iocm_tree.specs.declared.verb.Verb.TheVariants as verb
use Rattle.iocm_model.specs.Machine.Configuration.{Configuration}
use Rattle.iocm_model.specs.Machine.Record.{Rec}
use Rattle.iocm_model.specs.Change.Edit.{Action, action_key, record_after}
use Rattle.serde_json.specs.Data.{Data, null, string}
use Rattle.iocm_lines.specs.Lines.{line}
use Rattle.iocm_lines.specs.Members.{object_of}
use Rattle.iocm_record_lines.specs.Records.{record_value}

-- the word of a change deck for what an edit does
abbrev pub verb_text : Verb → List ℕ
verb_text verb.Add = codes "ADD"
verb_text verb.Delete = codes "DELETE"
verb_text verb.Modify = codes "MODIFY"

-- a record that is there, or null
abbrev pub any_record_value : Option Rec → Data
any_record_value None = null
any_record_value (Some r) = record_value r

-- what an action does with the record of its key, which was this one before
abbrev pub edit_value : Option Rec → Action → Data
edit_value before action =
    object_of (
    (codes "after", any_record_value (record_after action))
    ∷ (codes "before", any_record_value before)
    ∷ (codes "key", string (key_text (action_key action)))
    ∷ (codes "type", string (codes "edit"))
    ∷ (codes "verb", string (verb_text (verb_of action))) ∷ [])

-- the record under the key of an action before it
abbrev pub record_before : Configuration → Action → Option Rec
record_before c action = get c (action_key action)

-- the line of an action that leads away from a configuration
unfoldable pub edit_line : Configuration → Action → List ℕ
edit_line c action = line (edit_value (record_before c action) action)

-- a line for each of some actions, each of another key
abbrev pub edit_lines : Configuration → List Action → List ℕ
edit_lines c actions = flat_map (edit_line c) actions

-- the part of the line of an edit from its key to the end
abbrev pub edit_end : Verb → List ℕ
edit_end verb = codes ",\"type\":\"edit\",\"verb\":\"" ++ (verb_text verb ++ codes "\"}\n")

-- The line of a refusal.
use Rattle.std.specs.Prelude.{ℕ, List, [], ◌∷◌, ◌++◌, codes, Option, None, Some}
use Rattle.std.specs.Fmt.{decimal}
use Rattle.std.specs.Option.{option_map}
use Rattle.iocm_types.specs.declared.refused.At.{At}
use Rattle.iocm_types.specs.declared.rule.Rule.{Rule}
use Rattle.iocm_types.specs.declared.refused.At.TheVariants as at
use Rattle.iocm_types.specs.Key.{key_text}
use Rattle.iocm_types.specs.Rule.{rule_text}
use Rattle.serde_json.specs.Data.{Data, string}
use Rattle.iocm_lines.specs.Members.{object_of, count, if_there, subchannel_name}
use Rattle.iocm_lines.specs.declared.refused.Input.{Input}
use Rattle.iocm_lines.specs.declared.refused.Input.TheVariants as input
use Rattle.iocm_lines.specs.declared.refused.RefusedLine.{RefusedLine}

-- what it is about, if it names anything
abbrev pub about_text : At → Option (List ℕ)
about_text (at.Key key) = Some (key_text key)
about_text (at.Subchannel s) = Some (codes "subchannel " ++ subchannel_name s)
about_text (at.Change number) = Some (codes "change " ++ decimal number)
about_text at.Nothing = None

-- the text that was read
abbrev pub input_text : Input → List ℕ
input_text input.Deck = codes "deck"
input_text input.Change = codes "change"
input_text input.Old = codes "old"
input_text input.New = codes "new"
input_text input.Script = codes "script"
input_text (input.ChangeOf number) = codes "change " ++ decimal number

-- what is told of a refusal: its number, the text where it came, the line of the text, the node of the
-- change tree, what it is about, and its title
pub record Told : Type 0 where
  pub number : Rule
  pub input : Option Input
  pub line : Option ℕ
  pub node : Option ℕ
  pub about : At
  pub title : List ℕ

abbrev pub told : RefusedLine → Told
told l = record {
  number = l.number;
  input = l.input;
  line = l.line;
  node = l.node;
  about = l.about;
  title = l.title.now;
}

-- its number and its title, with what it is about, the text, the line and the node that it names
abbrev pub refused_value : Told → Data
refused_value why =
    object_of (
    if_there (codes "about") (option_map string (about_text why.about))
    (if_there (codes "input") (option_map (λ i. string (input_text i)) why.input)
    (if_there (codes "line") (option_map count why.line)
    (if_there (codes "node") (option_map count why.node)
    ((codes "rule", string (rule_text why.number))
    ∷ (codes "title", string why.title)
    ∷ (codes "type", string (codes "refused")) ∷ [])))))

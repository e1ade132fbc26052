-- What the members of lines of lists are.
use Rattle.std.specs.Prelude.{ℕ, List, [], ◌∷◌, codes, Option, None, Some}
use Rattle.iocm_types.specs.declared.css_path.CssPath.{CssPath}
use Rattle.iocm_types.specs.Print.{hex2}
use Rattle.serde_json.specs.Data.{Data, null, string}
use Rattle.iocm_lines.specs.Members.{object_of, count}

-- a text that a statement carries along, or null
abbrev pub text_value : Option (List ℕ) → Data
text_value None = null
text_value (Some text) = string text

-- a channel path
abbrev pub path_value : CssPath → Data
path_value p = object_of ((codes "css", count p.css) ∷ (codes "path", string (hex2 p.path)) ∷ [])

-- What is printed of a change, in a form: that it was made, and how many subchannels it altered.
use Rattle.std.specs.Prelude.{ℕ, List}
use Rattle.iocm_console.specs.Counted.{changed_line}
use Rattle.iocm_lines.specs.Change.{change_value}
use Rattle.iocm_lines.specs.declared.form.Form.{Form}
use Rattle.iocm_lines.specs.declared.form.Form.TheVariants.{Text, Json}
use Rattle.iocm_lines.specs.Lines as json

-- that the first change was made, and how many subchannels it altered
abbrev pub change_in : Form → ℕ → List ℕ
change_in Text altered = changed_line altered
change_in Json altered = json.line (change_value altered 1)

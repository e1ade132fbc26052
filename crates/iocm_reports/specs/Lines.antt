-- What is printed for `--altered`. As text: what was seen behind `-`, what is seen now behind `+`.
-- Bytes by their codes: 10 ends a line.
use Rattle.std.specs.Prelude.{ℕ, List, [], ◌∷◌, ◌++◌, codes, Option, None, Some, if◌then◌else◌}
use Rattle.std.specs.List.{flat_map}
use Rattle.iocm_types.specs.declared.sub_id.SubId.{SubId}
use Rattle.iocm_types.specs.declared.view.View.{View}
use Rattle.iocm_types.specs.Print.{hex4}
use Rattle.iocm_model.specs.Machine.Table.{left3, left2, line_of, heading}
use Rattle.iocm_model.specs.Change.Edit.{same_view}
use Rattle.iocm_seats.specs.declared.view_change.ViewChange.{ViewChange}
use Rattle.iocm_lines.specs.Altered.{altered_value}
use Rattle.iocm_lines.specs.declared.form.Form.{Form}
use Rattle.iocm_lines.specs.declared.form.Form.TheVariants.{Text, Json}
use Rattle.iocm_lines.specs.Lines as json
use Rattle.iocm_reports.specs.Change.{change_in}

-- the line of a subchannel in the table, behind a sign
abbrev pub signed_line : List ℕ → SubId → View → List ℕ
signed_line sign x v = sign ++ (line_of (x, v) ++ 10 ∷ [])

-- the four numbers of a subchannel as its line in the table begins, behind the sign of what is
-- the same
abbrev pub place_text : SubId → List ℕ
place_text x = codes "= " ++ (left3 x.image.css ++ (codes " " ++ (left2 x.image.mif ++ (codes " "
    ++ (left3 x.set ++ (codes " " ++ hex4 x.number))))))

-- the lines of a subchannel by what was seen there and what is seen now: what is gone behind `-`,
-- what came behind `+`; what is the same stands once, and where nothing was and is, its numbers do
abbrev pub lines_by : SubId → Option View → Option View → List ℕ
lines_by x (Some v) (Some w) =
    if same_view v w then signed_line (codes "= ") x v
    else signed_line (codes "- ") x v ++ signed_line (codes "+ ") x w
lines_by x (Some v) None = signed_line (codes "- ") x v
lines_by x None (Some w) = signed_line (codes "+ ") x w
lines_by x None None = place_text x ++ 10 ∷ []

unfoldable pub row_lines : ViewChange → List ℕ
row_lines r = lines_by r.subchannel r.before r.after

-- the same in a form: as JSON what was seen and what is seen are in one line
abbrev pub row_in : Form → ViewChange → List ℕ
row_in Text r = row_lines r
row_in Json r = json.line (altered_value r.subchannel r.before r.after)

-- what comes before the rows: the heading of the table, two places to the right
abbrev pub heading_in : Form → List ℕ
heading_in Text = codes "  " ++ (heading ++ 10 ∷ [])
heading_in Json = []

-- how many subchannels a change altered, and some of them, in a form
abbrev pub altered_in : Form → ℕ → List ViewChange → List ℕ
altered_in form altered rows = change_in form altered ++ (heading_in form ++ flat_map (row_in form) rows)

-- the same as text
abbrev pub altered_text : ℕ → List ViewChange → List ℕ
altered_text altered rows = altered_in Text altered rows

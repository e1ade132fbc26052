-- The change deck that takes a change back: the statements of its tree, and behind them, in
-- comments, what comes along with its edits. In lines of JSON there is one for each edit.
use Rattle.std.specs.Prelude.{ℕ, List, [], ◌∷◌, ◌++◌}
use Rattle.std.specs.List.{flat_map}
use Rattle.iocm_columns.specs.Written.{deck_bytes}
use Rattle.iocm_lines.specs.Lines.{line}
use Rattle.iocm_lines.specs.declared.form.Form.{Form}
use Rattle.iocm_lines.specs.declared.form.Form.TheVariants.{Text, Json}
use Rattle.iocm_record_lines.specs.Undo.{undo_value}
use Rattle.iocm_model.specs.Change.Edit.{Edit}
use Rattle.iocm_model.specs.Change.Tree.{ChangeTree, Parts, leaf, row, group, choose, none, part}
use Rattle.iocm_tree_writer.specs.Written.{written}
use Rattle.iocm_reports.specs.Remarks.{remarks_of}

abbrev mutual
  -- the edits of a tree, in order
  pub edits_in : ChangeTree → List Edit
  edits_in (leaf e) = e ∷ []
  edits_in (row ps) = edits_among ps
  edits_in (group ps) = edits_among ps
  edits_in (choose ps) = edits_among ps

  pub edits_among : Parts → List Edit
  edits_among none = []
  edits_among (part p ps) = edits_in p ++ edits_among ps

-- what is told of an edit: in comments what comes along with it, or its line of JSON
unfoldable pub told_of : Form → Edit → List ℕ
told_of Text e = remarks_of e
told_of Json e = line (undo_value e)

-- what is told of a tree, edit by edit, and of parts
abbrev pub told_in : Form → ChangeTree → List ℕ
told_in form t = flat_map (told_of form) (edits_in t)

abbrev pub told_among : Form → Parts → List ℕ
told_among form ps = flat_map (told_of form) (edits_among ps)

-- the statements of a tree, which lines of JSON don't have
abbrev pub statements_in : Form → ChangeTree → List ℕ
statements_in Text t = deck_bytes (written t)
statements_in Json t = []

-- its change deck, with what is told of its edits
abbrev pub way_back_in : Form → ChangeTree → List ℕ
way_back_in form t = statements_in form t ++ told_in form t

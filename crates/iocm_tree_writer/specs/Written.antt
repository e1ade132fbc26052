-- How a change tree is written: a line for each leaf, with its verb in the name field; ROW, GROUP
-- and CHOOSE stand before the lines of their parts, and END behind them. What comes along with an
-- edit isn't written.
use Rattle.std.specs.Prelude.{ℕ, List, [], ◌∷◌, ◌++◌, map}
use Rattle.iocm_columns.specs.declared.joined.Joined.{Joined}
use Rattle.iocm_model.specs.Change.Edit.{Action}
use Rattle.iocm_model.specs.Change.Tree.{ChangeTree, Parts, leaf, row, group, choose, none, part}
use Rattle.iocm_statements.specs.declared.operation.Operation.{Operation}
use Rattle.iocm_statements.specs.declared.operation.Operation.TheVariants.{Row, Group, Choose, End}
use Rattle.iocm_tree.specs.Carried.{verb_of}
use Rattle.iocm_deck_writer.specs.Canonical.{to_write}
use Rattle.iocm_deck_writer.specs.Statement.{Statement}
use Rattle.iocm_tree_writer.specs.Leaves.{action_statement, verb_name}

-- a line of a change deck: what stands in the name field, and a statement
pub record Line : Type 0 where
  pub name : List ℕ
  pub statement : Statement

-- the line of an action, and that of an operation alone
abbrev pub action_line : Action → Line
action_line a = record { name = verb_name (verb_of a); statement = action_statement a }

abbrev pub word_line : Operation → Line
word_line operation = record { name = []; statement = record { operation = operation; operands = [] } }

-- lines between an operation and its END
abbrev pub enclosed : Operation → List Line → List Line
enclosed operation lines = word_line operation ∷ (lines ++ word_line End ∷ [])

abbrev mutual
  -- the lines of a tree
  pub tree_lines : ChangeTree → List Line
  tree_lines (leaf e) = action_line e.action ∷ []
  tree_lines (row ps) = enclosed Row (lines_in ps)
  tree_lines (group ps) = enclosed Group (lines_in ps)
  tree_lines (choose ps) = enclosed Choose (lines_in ps)

  -- the lines of the parts of a node, one part behind the other
  pub lines_in : Parts → List Line
  lines_in none = []
  lines_in (part p ps) = tree_lines p ++ lines_in ps

-- a line that is to be written, which stands at no line yet
abbrev pub line_to_write : Line → Joined
line_to_write l = record (to_write l.statement) { name = l.name }

-- the deck of a change tree
abbrev pub written : ChangeTree → List Joined
written t = map line_to_write (tree_lines t)

abbrev pub written_in : Parts → List Joined
written_in ps = map line_to_write (lines_in ps)

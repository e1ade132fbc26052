-- The lines of a run: its statements, with the verb in the name field.
use Rattle.std.specs.Prelude.{ℕ, Some, List, [], ◌∷◌, ◌++◌, map, length, codes}
use Rattle.std.specs.List.{flat_map}
use Rattle.iocm_types.specs.declared.key.Key.{Key}
use Rattle.iocm_types.specs.declared.key.Key.TheVariants as key
use Rattle.iocm_model.specs.Change.Edit.{Action, add, delete, modify, action_key}
use Rattle.iocm_model.specs.Machine.Record.{Rec}
use Rattle.iocm_statements.specs.declared.operation.Operation.TheVariants.{Iodevice, Online}
use Rattle.iocm_tree.specs.Carried.{verb_of}
use Rattle.iocm_tree.specs.declared.verb.Verb.{Verb}
use Rattle.iocm_tree.specs.declared.verb.Verb.TheVariants.{Delete}
use Rattle.iocm_operands.specs.ChpidPath.{path_text}
use Rattle.iocm_operands.specs.Device.{devices_text}
use Rattle.iocm_values.specs.NameSet.{names_text}
use Rattle.iocm_deck_writer.specs.Canonical.{canonical}
use Rattle.iocm_deck_writer.specs.Device.{set_operand}
use Rattle.iocm_deck_writer.specs.Statement.{Statement, valued}
use Rattle.iocm_tree_writer.specs.Leaves.{verb_name}
use Rattle.iocm_tree_writer.specs.Written.{Line, action_line}

-- the record that an action leaves, if it leaves one
abbrev pub left_by : Action → List Rec
left_by (add r) = r ∷ []
left_by (delete key) = []
left_by (modify r) = r ∷ []

-- the name of the image of a pair
abbrev pub name_in : Key → List (List ℕ)
name_in (key.Online css path name) = name ∷ []
name_in _ = []

abbrev pub names_in : List Action → List (List ℕ)
names_in run = flat_map (λ a. name_in (action_key a)) run

-- devices by number alone: ADDRESS=(1000,4),SCHSET=1
abbrev pub devices_statement : ℕ → ℕ → ℕ → Statement
devices_statement set first count = record {
  operation = Iodevice;
  operands =
      valued (codes "ADDRESS") (Some (devices_text (record { first = first; count = count })))
      ++ valued (codes "SCHSET") (set_operand set);
}

-- pairs of one path: PATH=(CSS(0),50),PARTITION=(LPA,LPB)
abbrev pub pairs_statement : ℕ → ℕ → List (List ℕ) → Statement
pairs_statement css path names = record {
  operation = Online;
  operands =
      valued (codes "PATH") (Some (path_text (record { css = css; path = path })))
      ++ valued (codes "PARTITION") (Some (names_text names));
}

-- a statement with its verb
abbrev pub line_with : Verb → Statement → Line
line_with verb s = record { name = verb_name verb; statement = s }

-- devices that are added or modified, as a deck has them
abbrev pub devices_put : Verb → List Action → List Line
devices_put verb run = map (line_with verb) (canonical (flat_map left_by run))

-- the lines of a run, by the key and the verb of its first action: devices that are deleted stand
-- in one statement, and so do pairs; any other action has a line of its own
abbrev pub lines_by : Key → Verb → List Action → List Line
lines_by (key.Device set number) Delete run = line_with Delete (devices_statement set number (length run)) ∷ []
lines_by (key.Device set number) verb run = devices_put verb run
lines_by (key.Online css path name) verb run = line_with verb (pairs_statement css path (names_in run)) ∷ []
lines_by key verb run = map action_line run

abbrev pub run_lines : List Action → List Line
run_lines [] = []
run_lines (a ∷ actions) = lines_by (action_key a) (verb_of a) (a ∷ actions)

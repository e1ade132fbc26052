-- The text of a difference: a change deck of its runs, with what was there before each of them.
use Rattle.std.specs.Prelude.{ℕ, Option, List, ◌++◌, map}
use Rattle.std.specs.List.{flat_map}
use Rattle.iocm_columns.specs.Written.{deck_bytes}
use Rattle.iocm_model.specs.Change.Edit.{Action}
use Rattle.iocm_model.specs.Machine.Configuration.{Configuration}
use Rattle.iocm_tree_writer.specs.Written.{line_to_write}
use Rattle.iocm_difference_writer.specs.Comments.{comments_of}
use Rattle.iocm_difference_writer.specs.Runs.{runs}
use Rattle.iocm_difference_writer.specs.Written.{run_lines}

-- the lines of a run, with what was there before them
abbrev pub run_text : Option Configuration → List Action → List ℕ
run_text old run = comments_of old run ++ deck_bytes (map line_to_write (run_lines run))

-- the text of a difference
abbrev pub difference_text : Option Configuration → List Action → List ℕ
difference_text old actions = flat_map (run_text old) (runs actions)

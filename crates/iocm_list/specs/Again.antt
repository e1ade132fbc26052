-- The tables are read again: the words of their lines are the headings and the cells of the rows.
use Rattle.std.specs.Prelude.{◌≡◌, Bool, true, ◌++◌, map}
use Rattle.std.specs.List.{list_all}
use Rattle.iocm_types.specs.Name.{is_name}
use Rattle.iocm_model.specs.Machine.Configuration.{Configuration}
use Rattle.iocm_model.specs.Machine.Record.{PathRecord}
use Rattle.iocm_filter.specs.Wanted.{Wanted}
use Rattle.iocm_words.specs.Again.{lines_of, words_of}
use Rattle.iocm_words.specs.Table.{lines}
use Rattle.iocm_list.specs.Cells.{path_cells, path_columns, path_table, unit_cells, unit_columns, unit_table}
use Rattle.iocm_sight.specs.Connected.{paths_of}
use Rattle.iocm_list.specs.PathRows.{path_rows}
use Rattle.iocm_list.specs.UnitRows.{unit_rows}

-- what stands in the lists of a path is names, as it is wherever paths are read
abbrev pub lists_names : PathRecord → Bool
lists_names p = list_all is_name (p.access ++ p.candidates)

abbrev pub HasNames : Configuration → Type 0
HasNames c = list_all lists_names (paths_of c) ≡ true

abbrev pub PathTableIsReadAgain : Type 0
PathTableIsReadAgain = (w : Wanted) (c : Configuration) → HasNames c
    → map words_of (lines_of (path_table w c)) ≡ lines path_columns (map path_cells (path_rows w c))

abbrev pub UnitTableIsReadAgain : Type 0
UnitTableIsReadAgain = (w : Wanted) (c : Configuration)
    → map words_of (lines_of (unit_table w c)) ≡ lines unit_columns (map unit_cells (unit_rows w c))

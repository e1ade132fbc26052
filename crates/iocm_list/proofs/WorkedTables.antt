-- Rows and tables of the small configuration, computed.
use Rattle.std.proofs.Common.{◌≡◌, List, map, ap}
use Rattle.std.specs.FinMap.{entries, get-entries}
use Rattle.iocm_model.specs.Machine.Configuration.{Configuration, with_keys}
use Rattle.iocm_filter.proofs.WorkedRows.{in_order}
use Rattle.std.specs.Fmt.{char_count, digits, padded_integral}
use Rattle.iocm_words.specs.Table.{table_text}
use Rattle.iocm_filter.specs.Wanted.{nothing}
use Rattle.iocm_list.specs.declared.path_row.PathRow.{PathRow}
use Rattle.iocm_list.specs.declared.unit_row.UnitRow.{UnitRow}
use Rattle.iocm_list.specs.Cells.{path_cells, path_columns, unit_cells, unit_columns}
use Rattle.iocm_list.specs.Examples.{RowsAreLeft, RowsAreListed, paths_listed, some_configuration, some_records}
use Rattle.iocm_list.specs.Examples.{units_listed}
use Rattle.iocm_list.specs.PathRows.{path_rows}
use Rattle.iocm_list.specs.UnitRows.{unit_rows}

module _ (c : Configuration) (e : entries c ≡ with_keys some_records) where
  left : RowsAreLeft c
  left = record {
    image_paths = simp (get-entries, e);
    image_units = simp (get-entries, e);
    place_paths = simp (get-entries, e);
    place_units = simp (get-entries, e);
    no_image = simp e;
    own_paths = simp e;
    path_units = simp e;
    unit_paths = simp e;
    own_units = simp e;
    device_units = simp e;
    device_paths = simp e;
    both = simp (get-entries, e);
    neither = simp (get-entries, e);
  }

  paths : path_rows nothing c ≡ paths_listed
  paths = simp (get-entries, e)

  units : unit_rows nothing c ≡ units_listed
  units = simp e

  listed : RowsAreListed c
  unfolding digits padded_integral char_count
  listed = record {
    paths = paths;
    units = units;
    path_lines = ap (λ (rows : List PathRow). table_text path_columns (map path_cells rows)) paths;
    unit_lines = ap (λ (rows : List UnitRow). table_text unit_columns (map unit_cells rows)) units;
  }

pub rows_left : RowsAreLeft some_configuration
rows_left = left some_configuration (in_order some_records tt)

pub rows_listed : RowsAreListed some_configuration
rows_listed = listed some_configuration (in_order some_records tt)

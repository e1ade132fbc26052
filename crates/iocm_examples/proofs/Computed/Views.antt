-- The rows of the example deck, computed.
use Rattle.std.proofs.Common.{◌≡◌, ◌==◌, ℕ, List, [], ◌∷◌, map, filter, refl, ◌∙◌}
use Rattle.std.specs.List.{filter_map, flat_map}
use Rattle.std.specs.FinMap.{entries}
use Rattle.iocm_types.specs.declared.key.Key.{Key}
use Rattle.iocm_types.specs.declared.place.NumberCell.{NumberCell}
use Rattle.iocm_types.specs.Place.{cell_cmp}
use Rattle.iocm_types.specs.KeyOrder.{cells_total, cells_exact}
use Rattle.iocm_types.specs.declared.sub_id.SubId.{SubId}
use Rattle.iocm_types.specs.declared.view.View.{View}
use Rattle.iocm_model.specs.Machine.Configuration.{Lookup, with_keys, configuration_of, as_image}
use Rattle.iocm_model.specs.Machine.Record.{Rec, ImageRecord}
use Rattle.iocm_model.specs.Machine.View.{row_at, views}
use Rattle.iocm_model.specs.Machine.Numbering.{opening, cells_of}
use Rattle.iocm_examples.specs.BaseDeck.{base}
use Rattle.iocm_examples.specs.Views.{found_in, BaseRows}
use Rattle.iocm_examples.proofs.Listed.Maps.{entries_in_order}
use Rattle.iocm_examples.proofs.Computed.Numbers.{base_entries, base_lookup, base_numbers}

cell_of : ℕ → ℕ → NumberCell × ℕ
cell_of number device = (record { css = 0; set = 0; number = number }, device)

base_cells : entries (cells_of (opening (configuration_of base)))
    ≡ cell_of 0 0x1000 ∷ cell_of 1 0x1001 ∷ cell_of 2 0x1002 ∷ cell_of 3 0x1003 ∷ []
unfolding cell_of
base_cells = simp base_numbers
    (entries_in_order cell_cmp cells_total cells_exact
    (cell_of 0 0x1000 ∷ cell_of 1 0x1001 ∷ cell_of 2 0x1002 ∷ cell_of 3 0x1003 ∷ []) tt)

-- the rows that these records and number cells give
rows_from : Lookup → List (Key × Rec) → List (NumberCell × ℕ) → List (SubId × View)
rows_from found records cells = flat_map
    (λ (i : ImageRecord). filter_map (row_at found i) (filter (λ (e : NumberCell × ℕ). e.0.css == i.css) cells))
    (filter_map as_image (map (λ (e : Key × Rec). e.1) records))

listed_cells : List (NumberCell × ℕ)
listed_cells = cell_of 0 0x1000 ∷ cell_of 1 0x1001 ∷ cell_of 2 0x1002 ∷ cell_of 3 0x1003 ∷ []

listed : views (configuration_of base) (opening (configuration_of base))
    ≡ rows_from (found_in base) (with_keys base) listed_cells
unfolding rows_from listed_cells
listed = λ i. rows_from (λ key. base_lookup key i) (base_entries i) (base_cells i)

pub base_rows : BaseRows
unfolding rows_from listed_cells cell_of
base_rows = listed ∙ refl

-- The table of the columns and the cells.
use Rattle.std.proofs.Common.{◌≡◌, IfOk, List, ℕ, subst, ap, ◌∙◌}
use Rattle.iocm_words.specs.Table.{columns_of, rows_of, table_text}
use Rattle.iocm_impact_text.specs.Texts.{image_columns}
use Rattle.iocm_impact_text.proofs.image_table.table_of.Goals as goal

pub returns : goal.returns
returns c =
    subst (λ (due : List ℕ). IfOk c.table_text.result (λ text. text.items ≡ due))
    (ap (λ columns. table_text (columns_of columns) (rows_of c.as_slice-2.result.now)) c.as_slice.ensures
    ∙ ap (λ cells. table_text image_columns (rows_of cells)) c.as_slice-2.ensures.value
    ∙ ap (table_text image_columns) c.in_ok-cells.ensures)
    c.table_text.ensures

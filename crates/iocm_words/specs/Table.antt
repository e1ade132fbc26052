-- Tables of words: a heading and rows, in columns that are two blanks apart.
-- Bytes by their codes: 10 is a line feed, 32 is a blank.
use Rattle.std.specs.Prelude.{ℕ, ◌-◌, ◌==◌, ◌&&◌, if◌then◌else◌, max, fold, List, [], ◌∷◌, ◌++◌, map, length}
use Rattle.std.specs.Prelude.{replicate, Vec}
use Rattle.std.specs.List.{flat_map}
use Rattle.std.specs.declared.alloc.Global.{Global}
use Rattle.iocm_words.specs.declared.table.Side.{Side}
use Rattle.iocm_words.specs.declared.table.Side.TheVariants.{Left, Right}
use Rattle.iocm_words.specs.declared.table.Column.{Column}
use Rattle.iocm_words.specs.declared.table.Measure.{Measure}

-- a column: its heading, and the side on which its cells stand
pub record TableColumn : Type 0 where
  pub heading : List ℕ
  pub side : Side

-- the cell of a row in the first column, and those in the others; a cell that is missing is empty
abbrev pub first_cell : List (List ℕ) → List ℕ
first_cell [] = []
first_cell (cell ∷ cells) = cell

abbrev pub other_cells : List (List ℕ) → List (List ℕ)
other_cells [] = []
other_cells (cell ∷ cells) = cells

-- the width of the widest of some cells
abbrev pub widest : List (List ℕ) → ℕ
widest cells = fold (λ width cell. max width (length cell)) 0 cells

-- columns as they are laid out for some lines: each is as wide as its widest cell
abbrev pub measures : List TableColumn → List (List (List ℕ)) → List Measure
measures [] lines = []
measures (column ∷ columns) lines =
    record { side = column.side; width = widest (map first_cell lines) } ∷ measures columns (map other_cells lines)

-- a cell on its side of the blanks that fill its column
abbrev pub on_side : Side → List ℕ → List ℕ → List ℕ
on_side Left cell blanks = cell ++ blanks
on_side Right cell blanks = blanks ++ cell

abbrev pub filled : Measure → List ℕ → List ℕ
filled m cell = on_side m.side cell (replicate (m.width - length cell) 32)

-- the cells of a row in their columns, with two blanks behind each
abbrev pub cells_text : List Measure → List (List ℕ) → List ℕ
cells_text [] cells = []
cells_text (m ∷ ms) cells = filled m (first_cell cells) ++ (32 ∷ 32 ∷ cells_text ms (other_cells cells))

-- a line without the blanks at its end
abbrev pub without_blanks_behind : List ℕ → List ℕ
without_blanks_behind [] = []
without_blanks_behind (b ∷ bs) =
    if (b == 32) && (length (without_blanks_behind bs) == 0) then [] else b ∷ without_blanks_behind bs

-- the line of a row
abbrev pub line_text : List Measure → List (List ℕ) → List ℕ
line_text ms cells = without_blanks_behind (cells_text ms cells) ++ 10 ∷ []

-- the headings as a row, and the lines of a table: its heading, and its rows
abbrev pub heading_row : List TableColumn → List (List ℕ)
heading_row columns = map (λ (c : TableColumn). c.heading) columns

abbrev pub lines : List TableColumn → List (List (List ℕ)) → List (List (List ℕ))
lines columns rows = heading_row columns ∷ rows

-- its columns as they are laid out
abbrev pub measures_of : List TableColumn → List (List (List ℕ)) → List Measure
measures_of columns rows = measures columns (lines columns rows)

-- the text of a table
abbrev pub table_text : List TableColumn → List (List (List ℕ)) → List ℕ
table_text columns rows = flat_map (line_text (measures_of columns rows)) (lines columns rows)

-- columns, the cells of a row, and rows, as they lie in memory
abbrev pub column_of : Column → TableColumn
column_of c = record { heading = c.heading.now; side = c.side }

abbrev pub columns_of : List Column → List TableColumn
columns_of columns = map column_of columns

abbrev pub cells_of : List (Vec ℕ Global) → List (List ℕ)
cells_of row = map (λ cell. cell.items) row

abbrev pub rows_of : List (Vec (Vec ℕ Global) Global) → List (List (List ℕ))
rows_of rows = map (λ row. cells_of row.items) rows

-- The cells of a row from a place on, and columns as they are laid out.
use Rattle.std.proofs.Common.{◌≡◌, ℕ, zero, suc, ◌+◌, ◌<◌, List, [], ◌∷◌, ◌++◌, drop, length, get_or, map, replicate}
use Rattle.std.proofs.Common.{refl, sym, ap, ap₂, ◌∙◌, arith, append_assoc}
use Rattle.std.specs.Prelude.{Vec}
use Rattle.std.specs.declared.alloc.Global.{Global}
use Rattle.std.proofs.lemmas.List.{at_drop_more, drop-map}
use Rattle.iocm_words.specs.declared.table.Column.{Column}
use Rattle.iocm_words.specs.declared.table.Measure.{Measure}
use Rattle.iocm_words.specs.Table.{first_cell, other_cells, widest, measures, filled, cells_text, heading_row, lines}
use Rattle.iocm_words.specs.Table.{TableColumn, column_of, columns_of, cells_of, rows_of}

-- the first of them is that at the place, and the others are those from the next place on
pub first-drop : (place : ℕ) (row : List (Vec ℕ Global)) (cell : Vec ℕ Global) → place < length row
    → cell ≡ get_or row place cell → first_cell (drop place (cells_of row)) ≡ cell.items
first-drop place [] cell within is = absurd (omega (arith, within))
first-drop zero (v ∷ row) cell within is = ap (λ (x : Vec ℕ Global). x.items) (sym is)
first-drop (suc place) (v ∷ row) cell within is = first-drop place row cell (omega (arith, within)) is

pub others-drop : (place : ℕ) (cells : List (List ℕ)) → other_cells (drop place cells) ≡ drop (place + 1) cells
others-drop zero [] = refl
others-drop zero (cell ∷ cells) = refl
others-drop (suc place) [] = let e : suc place + 1 ≡ suc (place + 1) = omega arith in ap (λ n. drop n []) (sym e)
others-drop (suc place) (cell ∷ cells) =
    let e : suc place + 1 ≡ suc (place + 1) = omega arith in
    others-drop place cells ∙ ap (λ n. drop n (cell ∷ cells)) (sym e)

-- ---- the text of a row's cells

-- the text so far with one cell more, and its two blanks
pub cells_more : (ms : List Measure) (cells : List (List ℕ)) (place : ℕ) (d : Measure) (cell t t1 t2 whole : List ℕ)
    → place < length ms → cell ≡ first_cell (drop place cells)
    → t1 ≡ t ++ filled (get_or ms place d) cell → t2 ≡ t1 ++ replicate 2 32
    → t ++ cells_text (drop place ms) (drop place cells) ≡ whole
    → t2 ++ cells_text (drop (place + 1) ms) (drop (place + 1) cells) ≡ whole
cells_more ms cells place d cell t t1 t2 whole within is first second so_far =
    let rest : List ℕ = cells_text (drop (place + 1) ms) (drop (place + 1) cells) in
    let here : List ℕ = filled (get_or ms place d) cell in
    let step : cells_text (drop place ms) (drop place cells) ≡ here ++ (32 ∷ 32 ∷ rest) =
    at_drop_more (λ (ts : List Measure). cells_text ts (drop place cells)) ms place d within
    ∙ ap₂ (λ (c : List ℕ) (others : List (List ℕ)).
    filled (get_or ms place d) c ++ (32 ∷ 32 ∷ cells_text (drop (place + 1) ms) others))
    (sym is) (others-drop place cells) in
    ap (λ s. s ++ rest) (second ∙ ap (λ s. s ++ replicate 2 32) first)
    ∙ append_assoc (t ++ here) (replicate 2 32) rest
    ∙ append_assoc t here (replicate 2 32 ++ rest)
    ∙ ap (λ s. t ++ s) (sym step) ∙ so_far

-- ---- columns as they are laid out

others_of_lines : (place : ℕ) (all : List (List (List ℕ)))
    → map other_cells (map (drop place) all) ≡ map (drop (place + 1)) all
others_of_lines place [] = refl
others_of_lines place (line ∷ all) =
    ap₂ (λ (x : List (List ℕ)) (xs : List (List (List ℕ))). x ∷ xs) (others-drop place line) (others_of_lines place all)

pub lines_from_start : (all : List (List (List ℕ))) → map (drop 0) all ≡ all
lines_from_start [] = refl
lines_from_start (line ∷ all) = ap (λ xs. line ∷ xs) (lines_from_start all)

-- the cells of rows at a place
abbrev firsts : ℕ → List (Vec (Vec ℕ Global) Global) → List (List ℕ)
firsts place rows = map (λ (row : Vec (Vec ℕ Global) Global). first_cell (drop place (cells_of row.items))) rows

firsts_of_rows : (place : ℕ) (rows : List (Vec (Vec ℕ Global) Global))
    → map first_cell (map (drop place) (rows_of rows)) ≡ firsts place rows
firsts_of_rows place [] = refl
firsts_of_rows place (row ∷ rows) =
    ap (λ xs. first_cell (drop place (cells_of row.items)) ∷ xs) (firsts_of_rows place rows)

heading-drop : (columns : List Column) (place : ℕ) (d : Column) → place < length columns
    → first_cell (drop place (heading_row (columns_of columns))) ≡ (get_or columns place d).heading.now
heading-drop columns place d within =
    ap first_cell (drop-map (λ (c : TableColumn). c.heading) place (columns_of columns))
    ∙ ap (λ cs. first_cell (heading_row cs)) (drop-map column_of place columns)
    ∙ at_drop_more (λ (cs : List Column). first_cell (heading_row (columns_of cs))) columns place d within

-- the measures of the columns from a place on
abbrev pub measures_from : List Column → List (Vec (Vec ℕ Global) Global) → ℕ → List Measure
measures_from columns rows place =
    measures (columns_of (drop place columns)) (map (drop place) (lines (columns_of columns) (rows_of rows)))

abbrev measure_of : Column → ℕ → Measure
measure_of c width = record { side = c.side; width = width }

-- the measures so far with that of one column more
pub measures_more : (columns : List Column) (rows : List (Vec (Vec ℕ Global) Global)) (place width : ℕ) (d : Column)
    (ms ms1 whole : List Measure) → place < length columns
    → width ≡ widest ((get_or columns place d).heading.now ∷ firsts place rows)
    → ms1 ≡ ms ++ measure_of (get_or columns place d) width ∷ []
    → ms ++ measures_from columns rows place ≡ whole → ms1 ++ measures_from columns rows (place + 1) ≡ whole
measures_more columns rows place width d ms ms1 whole within wide more so_far =
    let all : List (List (List ℕ)) = lines (columns_of columns) (rows_of rows) in
    let column : Column = get_or columns place d in
    let rest : List Measure = measures_from columns rows (place + 1) in
    let widths : widest (map first_cell (map (drop place) all)) ≡ width =
    ap₂ (λ (h : List ℕ) (cells : List (List ℕ)). widest (h ∷ cells)) (heading-drop columns place d within)
    (firsts_of_rows place rows)
    ∙ sym wide in
    let step : measures_from columns rows place ≡ measure_of column width ∷ rest =
    at_drop_more (λ (cs : List Column). measures (columns_of cs) (map (drop place) all)) columns place d within
    ∙ ap₂ (λ (w : ℕ) (others : List (List (List ℕ))).
    measure_of column w ∷ measures (columns_of (drop (place + 1) columns)) others)
    widths (others_of_lines place all) in
    ap (λ s. s ++ rest) more ∙ append_assoc ms (measure_of column width ∷ []) rest
    ∙ ap (λ s. ms ++ s) (sym step) ∙ so_far

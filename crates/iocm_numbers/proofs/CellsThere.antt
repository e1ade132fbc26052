-- The number cells at some places: which are there, and how they are listed one by one.
use Rattle.std.proofs.Common.{◌≡◌, ℕ, Bool, true, false, ◌||◌, List, [], ◌∷◌, ◌++◌, drop, Option, Some, None, refl, sym}
use Rattle.std.proofs.Common.{ap, ◌∙◌}
use Rattle.std.proofs.lemmas.Bool.{or_right}
use Rattle.std.specs.List.{cons_option, list_any}
use Rattle.std.specs.Option.{option_map}
use Rattle.std.specs.Ordering.{eq_by_cmp}
use Rattle.std.specs.FinMap.{get}
use Rattle.iocm_types.specs.declared.place.Place.{Place}
use Rattle.iocm_types.specs.declared.place.NumberCell.{NumberCell}
use Rattle.iocm_types.specs.Place.{place_cmp, cell_cmp}
use Rattle.iocm_types.specs.KeyOrder.{places_exact, cells_total}
use Rattle.iocm_types.proofs.Found.{same_key, ties_itself}
use Rattle.iocm_model.specs.Machine.Numbering.{Numbering}
use Rattle.iocm_numbers.specs.LookedAt.{cells_at, CellsAreListed}
use Rattle.iocm_numbers.specs.Numbered.{cell_at}

-- ---- which are there

-- a cell is one of these
abbrev is_one_of : NumberCell → List NumberCell → Bool
is_one_of c cs = list_any (eq_by_cmp cell_cmp c) cs

-- the cells of a place and of those behind it, by what number it has
abbrev cells_with : Place → Option ℕ → List NumberCell → List NumberCell
cells_with p o cs = cons_option (option_map (cell_at p) o) cs

-- a cell that is there is there behind that of another place
there_behind : (c : NumberCell) (p : Place) (o : Option ℕ) (cs : List NumberCell) → is_one_of c cs ≡ true
    → is_one_of c (cells_with p o cs) ≡ true
there_behind c p None cs is = is
there_behind c p (Some k) cs is = or_right (eq_by_cmp cell_cmp c (cell_at p k)) _ is

-- the cell of the first place is there
there_first : (p : Place) (k : ℕ) (cs : List NumberCell) → is_one_of (cell_at p k) (cells_with p (Some k) cs) ≡ true
there_first p k cs = ap (λ b. b || is_one_of (cell_at p k) cs) (ties_itself cell_cmp cells_total (cell_at p k))

there_by : (n : Numbering) (q p : Place) (k : ℕ) (ps : List Place) (b : Bool) → eq_by_cmp place_cmp p q ≡ b
    → (b || list_any (eq_by_cmp place_cmp p) ps) ≡ true → get n p ≡ Some k
    → (list_any (eq_by_cmp place_cmp p) ps ≡ true → is_one_of (cell_at p k) (cells_at n ps) ≡ true)
    → is_one_of (cell_at p k) (cells_with q (get n q) (cells_at n ps)) ≡ true
there_by n q p k ps true same among has more =
    ap (λ x. is_one_of (cell_at p k) (cells_with x (get n x) (cells_at n ps)))
    (sym (same_key place_cmp places_exact p q same))
    ∙ ap (λ o. is_one_of (cell_at p k) (cells_with p o (cells_at n ps))) has ∙ there_first p k (cells_at n ps)
there_by n q p k ps false same among has more = there_behind (cell_at p k) q (get n q) (cells_at n ps) (more among)

-- the cell of each place that has a number is there
pub cells_are_listed : CellsAreListed
cells_are_listed n [] p k among has = cc
cells_are_listed n (q ∷ ps) p k among has =
    there_by n q p k ps (eq_by_cmp place_cmp p q) refl among has (λ more. cells_are_listed n ps p k more has)

-- ---- one by one

-- the cells so far, with those of the places that are left, are all
pub record IsListingCells (n : Numbering) (ps : List Place) (i : ℕ) (start cells : List NumberCell) : Type 0 where
  pub all : cells ++ cells_at n (drop i ps) ≡ start ++ cells_at n ps

-- The number cells of a channel subsystem, one after the other.
use Rattle.std.proofs.Common.{◌≡◌, ℕ, ◌==◌, true, false, cond, List, [], ◌∷◌, ◌++◌, ap}
use Rattle.std.proofs.lemmas.List.Elements.{filter-append}
use Rattle.iocm_types.specs.declared.place.NumberCell.{NumberCell}
use Rattle.iocm_seats.specs.Taken.{cells_in}

abbrev Cells : Type 0
Cells = List (NumberCell × ℕ)

pub cells_in-more : (css : ℕ) (e : NumberCell × ℕ) (es : Cells)
    → cells_in css (e ∷ es) ≡ cells_in css (e ∷ []) ++ cells_in css es
cells_in-more css e es = filter-append (λ (e : NumberCell × ℕ). e.0.css == css) (e ∷ []) es

-- a cell of another channel subsystem isn't among them
pub other_css : (css : ℕ) (e : NumberCell × ℕ) → (e.0.css == css) ≡ false → cells_in css (e ∷ []) ≡ []
other_css css e h = ap (λ b. cond b (e ∷ []) []) h

-- and one of this is
pub own_css : (css : ℕ) (e : NumberCell × ℕ) → (e.0.css == css) ≡ true → cells_in css (e ∷ []) ≡ e ∷ []
own_css css e h = ap (λ b. cond b (e ∷ []) []) h

-- What is seen at a number cell, by what its channel subsystem's images share there, is what is
-- seen at the subchannel.
use Rattle.std.proofs.Common.{◌≡◌, cond, List, [], ◌∷◌, ◌++◌, map, Option, eq-eqb, refl, sym, ap, ◌∙◌}
use Rattle.std.specs.List.{filter_map, cons_option}
use Rattle.std.specs.Option.{option_and_then}
use Rattle.iocm_types.specs.declared.image.Image.{Image}
use Rattle.iocm_types.specs.declared.place.NumberCell.{NumberCell}
use Rattle.iocm_types.specs.declared.sub_id.SubId.{SubId}
use Rattle.iocm_types.specs.declared.view.View.{View}
use Rattle.iocm_model.specs.Machine.Configuration.{Configuration, lookup_of, IsKeyed}
use Rattle.iocm_model.specs.Machine.Numbering.{Numbering}
use Rattle.iocm_model.specs.Machine.View.{view_at}
use Rattle.iocm_derive.specs.Derived.{name_at}
use Rattle.iocm_reach.specs.SightedCells.{SightedCell, sighted_cell, seen_there}
use Rattle.iocm_reach.proofs.Viewed.{seen_at_cell}
use Rattle.iocm_seats.specs.declared.view_change.ViewChange.{ViewChange}
use Rattle.iocm_seats.specs.Changes.{subchannel_at, candidates, change_at, change_from}
use Rattle.iocm_seats.specs.Sights.{AreSights, cells_of_sights}

-- the sights of cells are those of these cells
pub same_cells : (c : Configuration) (n : Numbering) (cells : List NumberCell)
    → cells_of_sights (map (sighted_cell c n) cells) ≡ cells
same_cells c n [] = refl
same_cells c n (x ∷ cells) = ap (λ xs. x ∷ xs) (same_cells c n cells)

pub all_sights : (c : Configuration) (n : Numbering) (cells : List NumberCell)
    → AreSights c n (map (sighted_cell c n) cells)
all_sights c n [] = tt
all_sights c n (x ∷ cells) = (refl, all_sights c n cells)

-- the change at a cell of an image's channel subsystem is that at the one candidate there
one_change : (change : SubId → Option ViewChange) (im : Image) (cell : NumberCell) → cell.css ≡ im.css
    → (o : Option ViewChange)
    → change (subchannel_at im cell) ≡ o → filter_map change (candidates (im ∷ []) (cell ∷ [])) ≡ cons_option o []
one_change change im cell there o is =
    ap (λ b. filter_map change (map (subchannel_at im) (cond {A = List NumberCell} b (cell ∷ []) []) ++ []))
    (eq-eqb cell.css im.css there)
    ∙ ap (λ (p : Option ViewChange). cons_option p []) is

-- the same by what the images of a channel subsystem share at the cell
pub change_there : (v : SubId → Option View) (c : Configuration) (n : Numbering) → IsKeyed c
    → (im : Image) (s : SightedCell) (cell : NumberCell)
    → s ≡ sighted_cell c n s.cell → cell ≡ s.cell → cell.css ≡ im.css
    → (after : Option View) → after ≡ option_and_then (seen_there s) (name_at (lookup_of s.records) im)
    → (o : Option ViewChange) → o ≡ change_from (v (subchannel_at im cell)) after (subchannel_at im cell)
    → filter_map (change_at v (view_at c n)) (candidates (im ∷ []) (s.cell ∷ [])) ≡ cons_option o []
change_there v c n keyed im s cell sight own there after seen o is =
    let here : s.cell.css ≡ im.css = sym (ap (λ (k : NumberCell). k.css) own) ∙ there in
    let shown : after ≡ view_at c n (subchannel_at im s.cell) =
    seen ∙ (λ j. option_and_then (seen_there (sight j)) (name_at (lookup_of (sight j).records) im))
    ∙ seen_at_cell c n im s.cell here keyed in
    one_change (change_at v (view_at c n)) im s.cell here o
    (sym (is ∙ (λ j. change_from (v (subchannel_at im (own j))) (shown j) (subchannel_at im (own j)))))

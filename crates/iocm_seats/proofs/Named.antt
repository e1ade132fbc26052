-- The name of an image at number cells of its channel subsystem: it is needed only where one has a
-- device.
use Rattle.std.proofs.Common.{◌≡◌, ◌||◌, ℕ, Bool, true, false, List, [], ◌∷◌, Option, refl, sym, ap, ◌∙◌}
use Rattle.std.specs.List.{list_any, AllByRecursion}
use Rattle.iocm_types.specs.declared.image.Image.{Image}
use Rattle.iocm_model.specs.Machine.Configuration.{Configuration, lookup_of}
use Rattle.iocm_model.specs.Machine.Numbering.{Numbering}
use Rattle.iocm_derive.specs.Derived.{name_at}
use Rattle.iocm_reach.specs.SightedCells.{SightedCell}
use Rattle.iocm_seats.specs.Sights.{has_device, AreSights, IsNamedAt}

-- cells of a configuration have its records
pub same_records : (c : Configuration) (n : Numbering) (m : Configuration) → m ≡ c → (sights : List SightedCell)
    → AreSights c n sights
    → AllByRecursion (λ (s : SightedCell). s.records ≡ m) sights
same_records c n m is [] all = tt
same_records c n m is (s ∷ sights) all =
    (ap (λ (t : SightedCell). t.records) all.0 ∙ sym is, same_records c n m is sights all.1)

-- a name that was looked up is the image's at all cells
pub looked_up : (m : Configuration) (i : Image) (sights : List SightedCell)
    → AllByRecursion (λ (s : SightedCell). s.records ≡ m) sights
    → AllByRecursion (IsNamedAt i (name_at (lookup_of m) i)) sights
looked_up m i [] all = tt
looked_up m i (s ∷ sights) all =
    ((λ has. ap (λ (c : Configuration). name_at (lookup_of c) i) (sym all.0)), looked_up m i sights all.1)

neither : (a b : Bool) → (a || b) ≡ false → (a ≡ false) × (b ≡ false)
neither true b h = cc
neither false b h = (refl, h)

-- where no cell has a device, any name will do
pub no_name_needed : (i : Image) (name : Option (List ℕ)) (sights : List SightedCell)
    → list_any has_device sights ≡ false
    → AllByRecursion (IsNamedAt i name) sights
no_name_needed i name [] none = tt
no_name_needed i name (s ∷ sights) none =
    let parts = neither (has_device s) (list_any has_device sights) none in
    let lacks : has_device s ≡ false = parts.0 in
    ((λ has. absurd (no_both (has_device s) has lacks)), no_name_needed i name sights parts.1)
  where
    no_both : (b : Bool) → b ≡ true → b ≡ false → ⊥
    no_both b holds fails = cc

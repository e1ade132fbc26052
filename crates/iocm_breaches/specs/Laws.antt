-- What the list of all breaches promises.
use Rattle.std.specs.Prelude.{◌≡◌, ◌↔◌, Option, None, Some, List, [], ◌∷◌}
use Rattle.iocm_model.specs.Machine.Configuration.{Configuration}
use Rattle.iocm_model.specs.Machine.Numbering.{Numbering}
use Rattle.iocm_model.specs.Rules.FirstBreach.{Breach, first_breach}
use Rattle.iocm_breaches.specs.Breaches.{all_breaches}

-- the first of a list, if it has one
abbrev pub first_of : List Breach → Option Breach
first_of [] = None
first_of (b ∷ bs) = Some b

-- the first of all breaches is the first breach
abbrev pub FirstComesFirst : Type 0
FirstComesFirst = (c : Configuration) (n : Numbering) → first_of (all_breaches c n) ≡ first_breach c n

-- there is none exactly where there is no first one
abbrev pub NoneWhereNoFirst : Type 0
NoneWhereNoFirst = (c : Configuration) (n : Numbering) → (all_breaches c n ≡ []) ↔ (first_breach c n ≡ None)

-- What holds of what filters leave.
use Rattle.std.specs.Prelude.{◌≡◌, true, false, List}
use Rattle.iocm_model.specs.Machine.Configuration.{Configuration}
use Rattle.iocm_filter.specs.Wanted.{Wanted, asks_nothing}
use Rattle.iocm_objects.specs.declared.object.Object.{Object}
use Rattle.iocm_plan_filter.specs.Left.{objects_left}

-- without filters all objects are left
abbrev pub WithoutFiltersAllIsLeft : Type 0
WithoutFiltersAllIsLeft = (w : Wanted) → asks_nothing w ≡ true → (c d : Configuration) (os : List Object)
    → objects_left w false c d os ≡ os

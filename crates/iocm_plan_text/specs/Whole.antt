-- What a plan prints of two configurations, and whether anything is told.
use Rattle.std.specs.Prelude.{ℕ, Bool, List}
use Rattle.iocm_model.specs.Machine.Configuration.{Configuration}
use Rattle.iocm_objects.specs.Objects.{objects}
use Rattle.iocm_objects.specs.declared.object.Object.{Object}
use Rattle.iocm_impact.specs.Gathered.{change}
use Rattle.iocm_impact.specs.Impact.{Impact, impact}
use Rattle.iocm_offon_text.specs.Texts.{offon_text}
use Rattle.iocm_plan_filter.specs.Left.{objects_left}
use Rattle.iocm_plan_text.specs.Asked.{Asked}
use Rattle.iocm_plan_text.specs.Notes.{notes_of_decks}
use Rattle.iocm_plan_text.specs.Sections.{is_told, plan}

-- what filters leave of all that differ
abbrev pub told_objects : Asked → Configuration → Configuration → List Object
told_objects a c d = objects_left a.wanted a.is_lost c d (objects c d)

abbrev pub told_impact : Asked → Configuration → Configuration → Impact
told_impact a c d = impact (change a.wanted a.is_lost c d)

abbrev pub told_off_and_on : Asked → Configuration → Configuration → List Object → List ℕ
told_off_and_on a c d os =
    offon_text (change a.wanted a.is_lost c d) os

unfoldable pub plan_text : Asked → Configuration → Configuration → List ℕ
plan_text a c d =
    plan a (notes_of_decks a.is_of_decks c d) (told_off_and_on a c d (told_objects a c d)) (told_objects a c d)
    (told_impact a c d)

unfoldable pub tells : Asked → Configuration → Configuration → Bool
tells a c d = is_told (told_objects a c d) (told_impact a c d)

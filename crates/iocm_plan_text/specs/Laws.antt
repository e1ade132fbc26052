-- What the text of a plan promises.
use Rattle.std.specs.Prelude.{◌≡◌, false}
use Rattle.iocm_model.specs.Machine.Configuration.{Configuration}
use Rattle.iocm_plan_text.specs.Asked.{Asked, is_filtered}
use Rattle.iocm_plan_text.specs.Summary.{nothing}
use Rattle.iocm_plan_text.specs.Whole.{plan_text, tells}

-- a plan of a configuration and itself is one line, which says that nothing is told
pub record IsOneLine (a : Asked) (c : Configuration) : Type 0 where
  pub text : plan_text a c c ≡ nothing (is_filtered a)
  pub untold : tells a c c ≡ false

abbrev pub PlanOfItselfIsOneLine : Type 0
PlanOfItselfIsOneLine = (a : Asked) (c : Configuration) → IsOneLine a c

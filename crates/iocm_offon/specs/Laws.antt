-- What reasons promise.
use Rattle.std.specs.Prelude.{◌≡◌, ℕ, Bool, true, false, not, ◌&&◌, Some, List, [], ◌∷◌}
use Rattle.iocm_plan.specs.Effects.{stays_on}
use Rattle.iocm_plan.specs.Routes.{is_one_route}
use Rattle.iocm_plan.specs.Seen.{Side}
use Rattle.iocm_plan.specs.declared.runs.DeviceRun.{DeviceRun}
use Rattle.iocm_impact.specs.declared.named_image.NamedImage.{NamedImage}
use Rattle.iocm_offon.specs.Reasons.{reasons_at}
use Rattle.iocm_offon.specs.Rerouted.{reasons_over}
use Rattle.iocm_offon.specs.declared.reason.Spot.{Spot}

abbrev pub is_none : {A : Type 0} → List A → Bool
is_none [] = true
is_none (x ∷ xs) = false

-- a path of a route has no reason exactly if it is one route before and after
abbrev pub OtherRoutesHaveReasons : Type 0
OtherRoutesHaveReasons = (s : Spot) (b a : Side) → s.path.css ≡ b.image.css
    → is_none (reasons_at s b a) ≡ is_one_route b a s.path.path

-- a path is online before and after by another route
abbrev pub is_rerouted : Side → Side → ℕ → Bool
is_rerouted b a p = stays_on (Some b) (Some a) p && not (is_one_route b a p)

-- so among the paths of an image and devices those have reasons that are online before and after by another route
abbrev pub EachPathOffAndOnHasAReason : Type 0
EachPathOffAndOnHasAReason = (i : NamedImage) (r : DeviceRun) (b a : Side) (p : ℕ)
    → is_none (reasons_over i r b a p) ≡ not (is_rerouted b a p)

-- The rows of an image: runs of devices of which the same is told.
use Rattle.std.specs.Prelude.{ℕ, ◌+◌, Bool, nat_eq, ◌==◌, ◌&&◌, if◌then◌else◌, List, [], ◌∷◌, map, filter}
use Rattle.std.specs.Cmp.Lexicographic.{pointwise}
use Rattle.std.specs.List.{zip}
use Rattle.std.specs.Option.{option_eq}
use Rattle.iocm_types.specs.declared.view.View.{View}
use Rattle.iocm_plan.specs.Effects.{has_row}
use Rattle.iocm_plan.specs.Runs.{same_truth}
use Rattle.iocm_plan.specs.declared.effect.Effect.{Effect}
use Rattle.iocm_plan.specs.declared.runs.DeviceRun.{DeviceRun}
use Rattle.iocm_impact.specs.declared.row.Row.{Row}

-- ---- what is told

-- views tell the same: the same paths, installed and online alike, whatever the device's number
abbrev pub tells_same_view : View → View → Bool
tells_same_view v u = pointwise nat_eq v.paths u.paths && v.pim == u.pim && v.pam == u.pam

-- so do effects: before and after the same is seen, and the same is interrupted or may go off and on
abbrev pub tells_same : Effect → Effect → Bool
tells_same e f = option_eq tells_same_view e.before f.before && option_eq tells_same_view e.after f.after
    && same_truth e.interrupted f.interrupted && same_truth e.offon f.offon

-- ---- the runs of which a row is told

abbrev pub row_of : DeviceRun × Effect → Row
row_of p = record { run = p.0; effect = p.1 }

-- each run with what is done to its devices, if a row tells it
abbrev pub is_told : Row → Bool
is_told r = has_row r.effect

abbrev pub told_rows : List DeviceRun → List Effect → List Row
told_rows rs es = filter is_told (map row_of (zip rs es))

-- ---- joined: devices that follow each other in one set, of which the same is told

-- a row follows another one
abbrev pub follows : Row → Row → Bool
follows r s = s.run.first.set == r.run.first.set && s.run.first.number == r.run.first.number + r.run.count
    && tells_same r.effect s.effect

abbrev pub with_more : Row → ℕ → Row
with_more r count = record {
  run = record { first = r.run.first; count = r.run.count + count };
  effect = r.effect;
}

-- a row and the rows behind it: one that follows it makes it longer, another one begins a row
abbrev pub joined_from : Row → List Row → List Row
joined_from r [] = r ∷ []
joined_from r (s ∷ ss) = if follows r s then joined_from (with_more r s.run.count) ss else r ∷ joined_from s ss

abbrev pub joined : List Row → List Row
joined [] = []
joined (r ∷ rs) = joined_from r rs

-- the rows of an image, of whose runs these are the effects
abbrev pub rows : List DeviceRun → List Effect → List Row
rows rs es = joined (told_rows rs es)

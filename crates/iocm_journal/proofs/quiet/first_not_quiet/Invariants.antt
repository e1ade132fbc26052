-- The first of those that are left is the first of all.
use Rattle.std.proofs.Common.{◌≡◌, drop, find}
use Rattle.std.specs.Map.{keys_of}
use Rattle.std.specs.FinMap.{get, keys}
use Rattle.iocm_model.specs.Change.Refusal.{is_not_quiet, first_not_quiet}
use Rattle.iocm_activate.specs.Effects.{effect_in}
use Rattle.iocm_journal.proofs.quiet.first_not_quiet.Given as goal

abbrev pub invariant-loop-cell : goal.invariant-loop-cell
invariant-loop-cell l =
    find (λ x. is_not_quiet (get l.plant.state.lives x)) (keys_of (drop l.cell-index l.cell-items)) ≡ first_not_quiet
    l.plant.state.lives (keys (effect_in l.change).lives)

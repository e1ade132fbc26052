-- The effects so far, with those of the runs to come, are all; the image stays.
use Rattle.std.proofs.Common.{◌≡◌, ◌++◌, drop}
use Rattle.iocm_model.specs.Machine.Configuration.{lookup_of}
use Rattle.iocm_plan.specs.Left.{effects_on_runs}
use Rattle.iocm_plan.specs.RunEffects.{sighted_at}
use Rattle.iocm_plan.proofs.run_effects.effects_on_runs.Given as goal

abbrev pub invariant-loop-run : goal.invariant-loop-run
invariant-loop-run l =
    let left = effects_on_runs l.filters l.is_lost (lookup_of l.old.records) (lookup_of l.new.records) l.image in
    record {
      its_before : l.before ≡ sighted_at l.old.records l.image;
      its_after : l.after ≡ sighted_at l.new.records l.image;
      left : l.effects.items ++ left (drop l.run-index l.runs) ≡ left l.runs;
    }

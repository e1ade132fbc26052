-- The reasons so far, with those of the runs to come, are all; the image stays.
use Rattle.std.proofs.Common.{◌≡◌, ◌++◌, drop}
use Rattle.iocm_plan.specs.RunEffects.{sighted_at}
use Rattle.iocm_impact.specs.Gathered.{change}
use Rattle.iocm_offon.specs.Rerouted.{reasons_on_runs}
use Rattle.iocm_offon.proofs.rerouted.put_on_runs.Given as goal

abbrev pub invariant-loop-run : goal.invariant-loop-run
invariant-loop-run l =
    let x = change l.filters l.is_lost l.old.records l.new.records in
    record {
      its_before : l.before ≡ sighted_at l.old.records l.image.image;
      its_after : l.after ≡ sighted_at l.new.records l.image.image;
      left : l.reasons.items ++ reasons_on_runs x (drop l.run-index l.runs) l.image
          ≡ l.initial.reasons.items ++ reasons_on_runs x l.runs l.image;
    }

-- The runs so far, with the one that is open and those of the objects to come, are all.
use Rattle.std.proofs.Common.{◌≡◌, ◌++◌, drop, map}
use Rattle.iocm_objects.specs.Runs.{alone, run_of, runs_from}
use Rattle.iocm_objects.proofs.runs.put_runs.Given as goal

abbrev pub invariant-loop-object : goal.invariant-loop-object
invariant-loop-object l =
    map run_of l.runs.items ++ runs_from (record { first = l.first; count = l.count }) (drop l.object-index l.objects)
    ≡ map run_of l.initial.runs.items ++ runs_from (alone l.fn.first) l.objects

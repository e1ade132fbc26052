-- The channel subsystems so far have their answers.
use Rattle.std.proofs.Common.{◌≡◌, ℕ, ◌<◌, false, not, length, get_or}
use Rattle.iocm_model.specs.Machine.Configuration.{lookup_of}
use Rattle.iocm_model.specs.Machine.Numbering.{is_empty}
use Rattle.iocm_model.specs.Machine.PathList.{path_list}
use Rattle.iocm_numbers.proofs.gathered.look_up.Given as goal

abbrev pub invariant-loop-number : goal.invariant-loop-number
invariant-loop-number g l = record {
  six : length l.reached ≡ 6;
  so_far : (css : ℕ) → css < l.number
      → get_or l.reached css false ≡ not (is_empty (path_list (lookup_of l.config.records) css l.units));
}

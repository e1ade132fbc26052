-- The numbers so far, with those of the channel subsystems that are left, are all.
use Rattle.std.proofs.Common.{◌≡◌, ◌++◌, drop, map}
use Rattle.iocm_model.specs.Machine.Numbering.{subsystems}
use Rattle.iocm_sight.specs.Counts.{numbers_in}
use Rattle.iocm_sight.proofs.set_numbers.all_numbers.Given as goal

abbrev pub invariant-loop-number : goal.invariant-loop-number
invariant-loop-number l =
    map (λ numbers. numbers.items) l.all.items ++ map (numbers_in l.config.records) (drop l.number subsystems)
    ≡ map (numbers_in l.config.records) subsystems

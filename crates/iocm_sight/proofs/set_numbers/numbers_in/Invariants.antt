-- The numbers so far, with those of the sets that are left, are all.
use Rattle.std.proofs.Common.{◌≡◌, ◌++◌, ◌==◌, not, drop, filter, map}
use Rattle.iocm_model.specs.Machine.Numbering.{sets}
use Rattle.iocm_sight.specs.Counts.{numbers_in, set_numbers}
use Rattle.iocm_words.specs.declared.ranges.SetNumbers.{SetNumbers}
use Rattle.iocm_sight.proofs.set_numbers.numbers_in.Given as goal

abbrev pub invariant-loop-number : goal.invariant-loop-number
invariant-loop-number l =
    l.numbers.items ++ filter (λ (s : SetNumbers). not (s.used == 0))
    (map (set_numbers l.config.records l.css) (drop l.number sets))
    ≡ numbers_in l.config.records l.css

use Rattle.std.proofs.Common.{◌+◌, ◌++◌, ◌==◌, ◌<◌, [], ◌∷◌, not, ℕ, Bool, drop, filter, map, ap, ◌∙◌, arith}
use Rattle.iocm_model.specs.Machine.Numbering.{sets}
use Rattle.iocm_sight.specs.Counts.{set_numbers}
use Rattle.iocm_words.specs.declared.ranges.SetNumbers.{SetNumbers}
use Rattle.iocm_sight.proofs.OneMore.{next_set}
use Rattle.iocm_sight.proofs.set_numbers.numbers_in.Goals as goal

pub loop-number-preserved : goal.loop-number-preserved
loop-number-preserved c =
    let p : SetNumbers → Bool = λ s. not (s.used == 0) in
    let f : ℕ → SetNumbers = set_numbers c.args.config.now.records c.args.css in
    let front = c.loop-number.numbers.items in
    let n = c.loop-number.number in
    let within : n < 4 = omega arith in
    ap (λ l. l ++ filter p (map f (drop (n + 1) sets)))
    (c.in_ok-put_numbers.ensures ∙ ap (λ set. front ++ filter p (f set ∷ [])) c.in-Some.ensures.value)
    ∙ next_set p f front n within ∙ c.loop-number.invariant

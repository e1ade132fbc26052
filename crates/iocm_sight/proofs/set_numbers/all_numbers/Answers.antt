use Rattle.std.proofs.Common.{◌+◌, ◌++◌, ◌<◌, [], ◌∷◌, ℕ, List, drop, map, ap, ◌∙◌, arith}
use Rattle.std.proofs.lemmas.List.{map-append}
use Rattle.iocm_model.specs.Machine.Numbering.{subsystems}
use Rattle.iocm_words.specs.declared.ranges.SetNumbers.{SetNumbers}
use Rattle.iocm_sight.specs.Counts.{numbers_in}
use Rattle.iocm_sight.proofs.OneMore.{next_subsystem}
use Rattle.iocm_sight.proofs.set_numbers.all_numbers.Goals as goal

pub loop-number-preserved : goal.loop-number-preserved
loop-number-preserved c =
    let f : ℕ → List SetNumbers = numbers_in c.args.config.now.records in
    let n = c.loop-number.number in
    let old = c.loop-number.all.items in
    let front = map (λ numbers. numbers.items) old in
    let within : n < 6 = omega arith in
    ap (λ l. map (λ numbers. numbers.items) l ++ map f (drop (n + 1) subsystems)) c.in_ok-push.ensures.items
    ∙ ap (λ l. l ++ map f (drop (n + 1) subsystems))
    (map-append (λ numbers. numbers.items) old (c.in_ok-numbers_in.field-0 ∷ [])
    ∙ ap (λ own. front ++ own ∷ []) (c.in_ok-numbers_in.ensures ∙ ap f c.in-Some.ensures.value))
    ∙ next_subsystem f front n within ∙ c.loop-number.invariant

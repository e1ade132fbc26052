use Rattle.std.proofs.Common.{◌≡◌, ◌<◌, [], ℕ, List, length, get_or, map, ap, sym, ◌∙◌, arith}
use Rattle.std.proofs.lemmas.List.{get_or-map, length-map}
use Rattle.iocm_words.specs.declared.ranges.SetNumbers.{SetNumbers}
use Rattle.iocm_sight.specs.Counts.{numbers_in}
use Rattle.iocm_sight.proofs.OneMore.{of_subsystem}
use Rattle.iocm_list.proofs.image_list.numbers_of.Goals as goal

pub index-own-requires : goal.index-own-requires
index-own-requires c =
    let all = c.args.listed.now.numbers in
    let long = length-map all.items (λ numbers. numbers.items) in
    let six : length (map (λ numbers. numbers.items) all.items) ≡ 6 = ap length c.args.listed.now.numbered in
    omega (arith, long, six, all.ok)

pub returns : goal.returns
returns c =
    let all = c.args.listed.now.numbers.items in
    let f : ℕ → List SetNumbers = numbers_in c.args.listed.now.config.now.records in
    let n = c.from-place.result in
    let small : n < 6 = omega (arith, c.number.ensures.range, c.from-place.ensures) in
    let long = length-map all (λ numbers. numbers.items) in
    let six : length (map (λ numbers. numbers.items) all) ≡ 6 = ap length c.args.listed.now.numbered in
    let within : n < length all = omega (arith, long, six) in
    c.in_ok-from_slice.ensures.items ∙ c.as_slice.ensures.value
    ∙ ap (λ own. own.items) c.index-own.ensures
    ∙ sym (get_or-map (λ numbers. numbers.items) all n c.index-own.result.now [] within)
    ∙ ap (λ (l : List (List SetNumbers)). get_or l n []) c.args.listed.now.numbered
    ∙ of_subsystem f n [] small
    ∙ ap f (c.from-place.ensures ∙ c.number.ensures.value)

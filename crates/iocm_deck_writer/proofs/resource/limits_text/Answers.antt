use Rattle.std.proofs.Common.{◌≡◌, ◌∙◌, ◌++◌, arith, ap, sym}
use Rattle.std.specs.List.{flat_map, range_with_len}
use Rattle.iocm_operands.specs.Limits.{places_in}
use Rattle.iocm_values.specs.Texts.{by_css_text}
use Rattle.iocm_values.proofs.Joined.{flat_map_more}
use Rattle.iocm_deck_writer.proofs.resource.limits_text.Goals as goal

pub loop-number-preserved : goal.loop-number-preserved
loop-number-preserved c =
    c.in_ok-put_places.ensures
    ∙ ap (λ items. items ++ places_in c.args.limits.now c.subsystem.result) c.loop-number.invariant
    ∙ ap (λ css. flat_map (places_in c.args.limits.now) (range_with_len 0 c.loop-number.number)
    ++ places_in c.args.limits.now css) c.subsystem.ensures
    ∙ sym (flat_map_more (places_in c.args.limits.now) 0 c.loop-number.number c.loop-number.number (omega arith))

pub returns : goal.returns
returns c =
    let all : c.loop-number.number ≡ 6 = omega (arith, c.loop-number-test.false, c.loop-number.auto.number-end) in
    c.in_ok-text.ensures ∙ ap by_css_text
    (c.deref.ensures.value ∙ c.loop-number.invariant
    ∙ ap (λ n. flat_map (places_in c.args.limits.now) (range_with_len 0 n)) all)

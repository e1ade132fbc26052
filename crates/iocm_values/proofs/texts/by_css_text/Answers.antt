use Rattle.std.proofs.Common.{◌∙◌, ◌++◌, arith, ap, sym}
use Rattle.std.specs.List.{flat_map, range_with_len}
use Rattle.iocm_values.specs.Texts as meaning
use Rattle.iocm_values.proofs.Joined.{flat_map_more}
use Rattle.iocm_values.proofs.texts.by_css_text.Goals as goal

pub loop-number-preserved : goal.loop-number-preserved
loop-number-preserved c =
    c.in_ok-put_group.ensures
    ∙ ap (λ groups. groups ++ meaning.group_texts c.args.items.now c.subsystem.result) c.loop-number.invariant
    ∙ ap (λ css. flat_map (meaning.group_texts c.args.items.now) (range_with_len 0 c.loop-number.number)
    ++ meaning.group_texts c.args.items.now css) c.subsystem.ensures
    ∙ sym (flat_map_more (meaning.group_texts c.args.items.now) 0 c.loop-number.number c.loop-number.number
    (omega arith))

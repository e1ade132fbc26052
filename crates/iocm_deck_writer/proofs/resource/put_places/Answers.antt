use Rattle.std.proofs.Common.{◌∙◌, ◌++◌, ◌∷◌, [], map, arith, ap, sym, append_assoc}
use Rattle.std.specs.List.{range_with_len}
use Rattle.std.proofs.lemmas.List.FromFn.{map-range_with_len_more}
use Rattle.iocm_operands.specs.Limits.{place_text}
use Rattle.iocm_deck_writer.proofs.resource.put_places.Goals as goal

pub loop-set-preserved : goal.loop-set-preserved
loop-set-preserved c =
    c.in_ok-put_place.ensures
    ∙ ap (λ items. items ++ place_text c.args.limits.now c.args.css c.loop-set.set ∷ []) c.loop-set.invariant
    ∙ append_assoc c.args.items.now.items
    (map (place_text c.args.limits.now c.args.css) (range_with_len 0 c.loop-set.set))
    (place_text c.args.limits.now c.args.css c.loop-set.set ∷ [])
    ∙ ap (λ more. c.args.items.now.items ++ more)
    (sym (map-range_with_len_more (place_text c.args.limits.now c.args.css) 0 c.loop-set.set c.loop-set.set
    (omega arith)))

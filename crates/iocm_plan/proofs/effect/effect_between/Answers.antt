-- Before alone no path stays online.
use Rattle.std.proofs.Common.{sym, ap, ◌∙◌}
use Rattle.std.specs.Option.{option_map}
use Rattle.iocm_plan.specs.Effects.{effect_between}
use Rattle.iocm_plan.specs.Sides.{side_of}
use Rattle.iocm_plan.proofs.Alone.{alone_before, seen_before}
use Rattle.iocm_plan.proofs.effect.effect_between.Goals as goal

pub returns-in-Some-None : goal.returns-in-Some-None
returns-in-Some-None c = c.seen_alone.ensures ∙ ap seen_before c.in-Some-None.before.is_seen
    ∙ sym (alone_before (side_of c.in-Some-None.before))
    ∙ (λ i. effect_between (option_map side_of (sym c.in-Some-None.is-0 i))
    (option_map side_of (sym c.in-Some-None.is-1 i)))

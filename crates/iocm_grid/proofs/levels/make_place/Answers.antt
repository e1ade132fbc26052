use Rattle.std.proofs.Common.{refl, sym, ◌∙◌}
use Rattle.std.proofs.lemmas.Result.{on_ok_weaker}
use Rattle.iocm_grid.specs.Levels.{slot_in}
use Rattle.iocm_grid.proofs.Adding.{adds_below, is_there}
use Rattle.iocm_grid.proofs.levels.make_place.Goals as goal

pub returns-clause-kept : goal.returns-clause-kept
returns-clause-kept g c =
    adds_below (λ sets x. slot_in sets x) (λ x. refl) (λ x. x.image.css) c.reach.ensures.longer c.from-css.result
    c.in-Some.sets.now c.make_in.new.sets (sym c.in-Some.ensures.value) c.make_in.ensures.kept

pub returns-clause-ok : goal.returns-clause-ok
returns-clause-ok g c = on_ok_weaker c.make_in.result
    (is_there (λ sets x. slot_in sets x) (λ x. refl) (λ x. x.image.css) c.reach.ensures.longer c.from-css.result
    c.in-Some.sets.now c.make_in.new.sets (sym c.in-Some.ensures.value) c.make_in.ensures.kept c.args.key.now
    (sym (c.from-css.ensures ∙ c.number.ensures.value))) c.make_in.ensures.ok

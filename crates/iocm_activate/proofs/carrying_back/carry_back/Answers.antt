use Rattle.std.proofs.Common.{sym, ap, subst, ◌∙◌}
use Rattle.iocm_model.specs.Laws.Trees.{KeepsTheRules}
use Rattle.iocm_tree.specs.Trees.{tree_of}
use Rattle.iocm_plant.specs.Operating.{Operating}
use Rattle.iocm_plant.specs.declared.touched.Applied.{Applied}
use Rattle.std.proofs.Common.{List, reverse}
use Rattle.iocm_activate.specs.CarryingBack.{are_turned_back}
use Rattle.iocm_activate.proofs.CarryingBack.{fitted}
use Rattle.iocm_activate.proofs.Whole.{can_take_all_back, leads_back, walked, means_now, inverse_now, takes_back_now}
use Rattle.iocm_activate.proofs.Whole.{kept_by}
use Rattle.iocm_activate.proofs.carrying_back.carry_back.Goals as goal

pub returns-in-Err-clause-kept : goal.returns-in-Err-clause-kept
returns-in-Err-clause-kept g c = subst KeepsTheRules (sym c.in-Err.ensures.same) c.requires.kept

pub take_all_back-requires : goal.take_all_back-requires
take_all_back-requires g c = record { back = can_take_all_back (walked c.in-Ok.ensures.accepted) }

pub returns-then-not-are_turned_back-clause-back : goal.returns-then-not-are_turned_back-clause-back
returns-then-not-are_turned_back-clause-back g c =
    c.take_all_back.ensures.undone c.args.plant.now.state (leads_back (walked c.in-Ok.ensures.accepted))

pub returns-then-not-are_turned_back-clause-kept : goal.returns-then-not-are_turned_back-clause-kept
returns-then-not-are_turned_back-clause-kept g c =
    subst KeepsTheRules (sym
    (c.take_all_back.ensures.undone c.args.plant.now.state (leads_back (walked c.in-Ok.ensures.accepted))))
    c.requires.kept

pub give_way_back-requires : goal.give_way_back-requires
give_way_back-requires g c = record { back = can_take_all_back (walked c.in-Ok.ensures.accepted) }

pub returns-in-Ok-give_way_back-clause-back : goal.returns-in-Ok-give_way_back-clause-back
returns-in-Ok-give_way_back-clause-back g c =
    let w = c.in-Ok.ensures.accepted in
    let redo = tree_of c.in-Ok-give_way_back.redo in
    record {
      means = means_now w c.give_way_back.new.plant c.in-Ok-give_way_back.ensures.done;
      inverse = inverse_now w redo c.in-Ok-give_way_back.ensures.inverse;
      takes_back = takes_back_now w redo c.is_sound.ensures c.requires.kept c.in-Ok-give_way_back.ensures.inverse;
      fitted = fitted w c.args.performed.now
          (ap (λ (ds : List Applied). are_turned_back ds (reverse c.args.performed.now)) (sym c.as_slice.ensures.value)
          ∙ sym c.are_turned_back.ensures ∙ c.if-not-are_turned_back.false);
    }

pub returns-in-Ok-give_way_back-clause-kept : goal.returns-in-Ok-give_way_back-clause-kept
returns-in-Ok-give_way_back-clause-kept g c =
    subst (λ (p : Operating). KeepsTheRules p.state) (sym c.in-Ok-give_way_back.ensures.done)
    (kept_by c.in-Ok.ensures.accepted)

pub returns-in-Err-give_way_back-clause-back : goal.returns-in-Err-give_way_back-clause-back
returns-in-Err-give_way_back-clause-back g c =
    c.in-Err-give_way_back.ensures.undone c.args.plant.now.state (leads_back (walked c.in-Ok.ensures.accepted))

pub returns-in-Err-give_way_back-clause-kept : goal.returns-in-Err-give_way_back-clause-kept
returns-in-Err-give_way_back-clause-kept g c =
    subst KeepsTheRules (sym
    (c.in-Err-give_way_back.ensures.undone c.args.plant.now.state (leads_back (walked c.in-Ok.ensures.accepted))))
    c.requires.kept

use Rattle.std.proofs.Common.{sym, subst}
use Rattle.iocm_model.specs.Laws.Trees.{KeepsTheRules}
use Rattle.iocm_tree.specs.Trees.{tree_of}
use Rattle.iocm_plant.specs.Operating.{Operating}
use Rattle.iocm_activate.proofs.Whole.{ok_then, on_ok_then, either_way, can_take_all_back, leads_back, walked}
use Rattle.iocm_activate.proofs.Whole.{means_now, inverse_now, takes_back_now, kept_by}
use Rattle.iocm_activate.proofs.carrying_out.carry_out.Goals as goal

pub give_way_back-requires : goal.give_way_back-requires
give_way_back-requires g c = record { back = can_take_all_back (walked c.in-Ok.ensures.accepted) }

pub returns-in-Ok-clause-means : goal.returns-in-Ok-clause-means
returns-in-Ok-clause-means g c =
    on_ok_then c.give_way_back.result c.give_way_back.ensures.done
    (means_now c.in-Ok.ensures.accepted c.give_way_back.new.plant)

pub returns-in-Ok-clause-kept : goal.returns-in-Ok-clause-kept
returns-in-Ok-clause-kept g c =
    let w = c.in-Ok.ensures.accepted in
    either_way c.give_way_back.result c.give_way_back.ensures.done c.give_way_back.ensures.undone
    (λ same. subst (λ (p : Operating). KeepsTheRules p.state) (sym same) (kept_by w))
    (λ back. subst KeepsTheRules (sym (back c.args.plant.now.state (leads_back (walked w)))) c.requires.kept)

pub returns-in-Ok-clause-inverse : goal.returns-in-Ok-clause-inverse
returns-in-Ok-clause-inverse g c = ok_then c.give_way_back.result c.give_way_back.ensures.inverse
    (λ d. inverse_now c.in-Ok.ensures.accepted (tree_of d))

pub returns-in-Ok-clause-takes_back : goal.returns-in-Ok-clause-takes_back
returns-in-Ok-clause-takes_back g c = ok_then c.give_way_back.result c.give_way_back.ensures.inverse
    (λ d. takes_back_now c.in-Ok.ensures.accepted (tree_of d) c.is_sound.ensures c.requires.kept)

pub returns-in-Err-clause-kept : goal.returns-in-Err-clause-kept
returns-in-Err-clause-kept g c = subst KeepsTheRules (sym c.in-Err.ensures.same) c.requires.kept

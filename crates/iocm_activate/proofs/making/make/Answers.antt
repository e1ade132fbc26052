use Rattle.std.proofs.Common.{sym, subst}
use Rattle.iocm_model.specs.Laws.Trees.{KeepsTheRules}
use Rattle.iocm_tree.specs.Trees.{tree_of}
use Rattle.iocm_plant.specs.Operating.{Operating}
use Rattle.iocm_activate.proofs.Whole.{ok_then, on_ok_then, either_way, can_take_all_back, leads_back, walked}
use Rattle.iocm_activate.proofs.Whole.{means_now, inverse_now, takes_back_now, kept_by, told_now}
use Rattle.iocm_activate.proofs.making.make.Goals as goal

pub finish_made-requires : goal.finish_made-requires
finish_made-requires g c = record { back = can_take_all_back (walked c.in-Ok.ensures.accepted) }

pub returns-in-Ok-clause-means : goal.returns-in-Ok-clause-means
returns-in-Ok-clause-means g c =
    on_ok_then c.finish_made.result c.finish_made.ensures.done
    (means_now c.in-Ok.ensures.accepted c.finish_made.new.plant)

pub returns-in-Ok-clause-kept : goal.returns-in-Ok-clause-kept
returns-in-Ok-clause-kept g c =
    let w = c.in-Ok.ensures.accepted in
    either_way c.finish_made.result c.finish_made.ensures.done c.finish_made.ensures.undone
    (λ same. subst (λ (p : Operating). KeepsTheRules p.state) (sym same) (kept_by w))
    (λ back. subst KeepsTheRules (sym (back c.args.plant.now.state (leads_back (walked w)))) c.requires.kept)

pub returns-in-Ok-clause-inverse : goal.returns-in-Ok-clause-inverse
returns-in-Ok-clause-inverse g c = ok_then c.finish_made.result c.finish_made.ensures.inverse
    (λ d. inverse_now c.in-Ok.ensures.accepted (tree_of d.inverse))

pub returns-in-Ok-clause-takes_back : goal.returns-in-Ok-clause-takes_back
returns-in-Ok-clause-takes_back g c = ok_then c.finish_made.result c.finish_made.ensures.inverse
    (λ d. takes_back_now c.in-Ok.ensures.accepted (tree_of d.inverse) c.is_sound.ensures c.requires.kept)

pub returns-in-Ok-clause-performed : goal.returns-in-Ok-clause-performed
returns-in-Ok-clause-performed g c = ok_then c.finish_made.result c.finish_made.ensures.performed
    (λ d. told_now c.in-Ok.ensures.accepted d.performed.items)

pub returns-in-Err-clause-kept : goal.returns-in-Err-clause-kept
returns-in-Err-clause-kept g c = subst KeepsTheRules (sym c.in-Err.ensures.same) c.requires.kept

-- What an activation does.
use Rattle.std.proofs.Common.{refl, sym, subst, ◌∙◌}
use Rattle.iocm_model.specs.Laws.Trees.{KeepsTheRules}
use Rattle.iocm_tree.specs.Trees.{plain_tree, tree_of}
use Rattle.iocm_plant.specs.Operating.{Operating}
use Rattle.iocm_core.proofs.Changes.{activated_by}
use Rattle.iocm_core.proofs.Kept.{rules_kept}
use Rattle.iocm_core.proofs.installation.Installation.try_to_activate.Goals as goal

pub activate-requires : goal.activate-requires
activate-requires c =
    let kept = rules_kept c.args.self.now c.requires.running c.requires.idle in
    record { kept = subst (λ (p : Operating). KeepsTheRules p.state) (sym c.make_room.ensures.plant) kept }

pub returns-in-Ok-clause-done : goal.returns-in-Ok-clause-done
returns-in-Ok-clause-done c =
    let laws = c.journals_keep_to_histories.ensures in
    let r = c.make_room.new.self in
    let room = c.make_room.ensures in
    let t = plain_tree (tree_of c.args.tree.now) in
    activated_by t c.args.self.now r c.accept.new.self room.plant room.rest
    laws.same c.activate.new.plant c.in-Ok.done (record r { plant = c.activate.new.plant })
    c.accept.result c.in-Ok.ensures.means c.in-Ok.ensures.inverse c.in-Ok.ensures.effect c.in-Ok.ensures.performed
    c.accept.ensures.accepted refl refl c.accept.ensures.number c.accept.ensures.plant
    (c.accept.ensures.stage ∙ room.stage ∙ c.requires.idle)
